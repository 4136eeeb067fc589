use Rattle.std.proofs.Common.{sym, codes, ◌∙◌}
use Rattle.clap.specs.Words.{first_of, found_of, rows_of}
use Rattle.clap.proofs.WalkLemmas.{first_value-rows}
use Rattle.boost.proofs.ArgumentNumbers.{size_of_found}
use Rattle.boost.proofs.arguments.area_asked.Goals as goal

pub returns-in-Some : goal.returns-in-Some
returns-in-Some c =
    size_of_found c.size.result c.in-Some.text.now
    (first_of (codes "area") (rows_of (found_of c.args.found.now))) c.size.ensures
    (sym (first_value-rows (found_of c.args.found.now) (codes "area")) ∙ sym c.in-Some.ensures)
