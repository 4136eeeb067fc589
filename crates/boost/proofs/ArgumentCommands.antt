-- A command with one argument more, and a program with one command more.
use Rattle.std.proofs.Common.{◌≡◌, ◌∙◌, ◌||◌, ap, ap₂, false, Result, Ok, Err}
use Rattle.std.specs.Prelude.{IfOk}
use Rattle.std.specs.Result.{IsOkAnd}
use Rattle.clap.specs.Words.{App, AddsArg, Rule, app_of, rule_of, with_rule, with_subcommand}
use Rattle.clap.specs.declared.builder.arg.Arg.{Arg}
use Rattle.clap.specs.declared.builder.command.Command.{Command}
use Rattle.clap.specs.declared.builder.command.Command.TheViews.{out-Command}

-- what the commands of the program are: of these rules, with none that is global
abbrev pub HasRules : Command → App → Type 0
HasRules c known = (app_of c ≡ known) × ((out-Command c).has_globals ≡ false)

pub adds : (old new : Command) (arg : Arg) (known : App) (rule : Rule) → AddsArg old arg new →
    HasRules old known → rule_of arg ≡ rule → arg.global ≡ false →
    HasRules new (with_rule known rule)
adds old new arg known rule h before same alone =
    (h.shape alone ∙ ap₂ with_rule before.0 same, h.globals ∙ ap₂ ◌||◌ before.1 alone)

pub with_gives : {E : Type 0} (made : Result Command E) (before known more whole : App) →
    IfOk made (λ c. (app_of c ≡ more) × ((out-Command c).has_globals ≡ false)) →
    IsOkAnd made (λ c. (out-Command c).has_globals ≡ false →
    whole ≡ with_subcommand before (app_of c).top) →
    before ≡ known → whole ≡ with_subcommand known more.top
with_gives (Ok c) before known more whole is added same =
    added is.1 ∙ ap₂ with_subcommand same (ap (λ (a : App). a.top) is.0)
with_gives (Err e) before known more whole is added same = absurd added
