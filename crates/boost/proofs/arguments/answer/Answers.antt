use Rattle.std.proofs.Common.{◌≡◌, ◌∙◌, ap, refl, true, subst, map, Option, List, ℕ, Bor}
use Rattle.std.specs.Prelude.{IsSomeAnd}
use Rattle.clap.specs.Words.{App, Row, Text, is_simple, subcommand_of}
use Rattle.clap.proofs.OnLiterals.{clap_on_literals}
use Rattle.boost.specs.Arguments.{program_app, Asks}
use Rattle.boost.proofs.arguments.answer.Goals as goal

is_simple_program : is_simple program_app ≡ true
unfolding clap_on_literals
is_simple_program = refl

pub returns-in-Some : goal.returns-in-Some
returns-in-Some c = λ form.
    let found = (c.in_ok-matches.ensures.ok.2 (ap is_simple form ∙ is_simple_program)).1 in
    let words = map (λ (word : Bor (List ℕ)). word.now) c.args.words.now in
    let same = found ∙ ap (λ (a : App). subcommand_of a words) form in
    let asks = rw c.in-Some.is at c.in_ok-command.ensures in
    subst (λ (o : Option (Text × List Row)). IsSomeAnd o (Asks c.in-Some.command)) same asks
