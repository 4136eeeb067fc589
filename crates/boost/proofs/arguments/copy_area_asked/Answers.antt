use Rattle.std.proofs.Common.{Option, codes, subst, sym, ◌∙◌}
use Rattle.std.specs.Prelude.{IsSomeAnd}
use Rattle.clap.specs.Words.{Text, found_of}
use Rattle.clap.proofs.WalkLemmas.{first_value-rows}
use Rattle.boost.specs.Sizes.{IsSizeOf}
use Rattle.boost.proofs.arguments.copy_area_asked.Goals as goal

pub returns-in_ok-size-in-Some : goal.returns-in_ok-size-in-Some
returns-in_ok-size-in-Some c =
    subst (λ (o : Option Text). IsSomeAnd o (IsSizeOf c.in_ok-size-in-Some.field-0))
    (c.in-Some.ensures ∙ first_value-rows (found_of c.args.found.now) (codes "area"))
    c.in_ok-size-in-Some.ensures

pub returns-in-None : goal.returns-in-None
returns-in-None c =
    sym (first_value-rows (found_of c.args.found.now) (codes "area")) ∙ sym c.in-None.ensures
