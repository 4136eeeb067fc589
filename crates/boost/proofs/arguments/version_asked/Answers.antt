use Rattle.std.proofs.Common.{◌≡◌, ℕ, Ok, Option, codes, subst, ◌∙◌, refl}
use Rattle.std.specs.Prelude.{MatchOption}
use Rattle.std.specs.Str.Parse.{ParsesUnsigned}
use Rattle.std.specs.declared.num.ParseIntError.{ParseIntError}
use Rattle.clap.specs.Words.{Text, found_of}
use Rattle.clap.proofs.WalkLemmas.{first_value-rows}
use Rattle.boost.proofs.arguments.version_asked.Goals as goal

pub returns-in_ok-parse-in-Some : goal.returns-in_ok-parse-in-Some
returns-in_ok-parse-in-Some c =
    let n = c.in_ok-parse-in-Some.field-0 in
    subst (λ (o : Option Text). MatchOption o (n ≡ 1)
    (λ text. ParsesUnsigned {E = ParseIntError} 8 10 text (Ok n)))
    (c.in-Some.ensures ∙ first_value-rows (found_of c.args.found.now) (codes "format"))
    c.in_ok-parse-in-Some.ensures.value.0

pub returns-in-None : goal.returns-in-None
returns-in-None c =
    subst (λ (o : Option Text). MatchOption o (◌≡◌ {A = ℕ} 1 1)
    (λ text. ParsesUnsigned {E = ParseIntError} 8 10 text (Ok 1)))
    (c.in-None.ensures ∙ first_value-rows (found_of c.args.found.now) (codes "format")) refl
