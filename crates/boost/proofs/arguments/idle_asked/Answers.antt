use Rattle.std.proofs.Common.{Option, codes, subst, sym, ◌∙◌}
use Rattle.std.specs.Prelude.{IsSomeAnd}
use Rattle.clap.specs.Words.{Text, found_of}
use Rattle.clap.proofs.WalkLemmas.{first_value-rows}
use Rattle.boost.specs.Arguments.{IsNumberOf}
use Rattle.boost.proofs.arguments.idle_asked.Goals as goal

pub returns-in_ok-parse-in-Some : goal.returns-in_ok-parse-in-Some
returns-in_ok-parse-in-Some c =
    subst (λ (o : Option Text). IsSomeAnd o (IsNumberOf c.in_ok-parse-in-Some.field-0))
    (c.in-Some.ensures ∙ first_value-rows (found_of c.args.found.now) (codes "idle"))
    (record { parsed = c.in_ok-parse-in-Some.ensures.value.0 })

pub returns-in-None : goal.returns-in-None
returns-in-None c =
    sym (first_value-rows (found_of c.args.found.now) (codes "idle")) ∙ sym c.in-None.ensures
