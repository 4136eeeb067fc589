use Rattle.std.proofs.Common.{rules, sym, ◌∙◌}
use Rattle.clap.specs.Words.{found_of}
use Rattle.clap.proofs.WalkLemmas.{first_value-rows}
use Rattle.boost.proofs.arguments.is_given.Goals as goal

pub returns-in-Some : goal.returns-in-Some
returns-in-Some c =
    rw (sym (first_value-rows (found_of c.args.found.now) c.args.id.now) ∙ sym c.in-Some.ensures)
    (search rules)

pub returns-in-None : goal.returns-in-None
returns-in-None c =
    rw (sym (first_value-rows (found_of c.args.found.now) c.args.id.now) ∙ sym c.in-None.ensures)
    (search rules)
