use Rattle.catalog.specs.Holdings.{content_of}
use Rattle.catalog.proofs.Places.{not_held}
use Rattle.catalog.proofs.shelf.CatalogShelfShelved.measured.Goals as goal

pub returns-in_ok-measured_of-in-Some-clause-ok : goal.returns-in_ok-measured_of-in-Some-clause-ok
returns-in_ok-measured_of-in-Some-clause-ok c =
    (content_of c.in-Some.holding.now, c.in-Some.ensures, c.in_ok-measured_of-in-Some.ensures)

pub returns-in-None-clause-err : goal.returns-in-None-clause-err
returns-in-None-clause-err c = not_held c.args.self.now c.args.at c.in-None.ensures
