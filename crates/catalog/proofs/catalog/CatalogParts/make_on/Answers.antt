use Rattle.catalog.specs.Holdings.{content_of}
use Rattle.catalog.proofs.Whole.{made_on}
use Rattle.catalog.proofs.catalog.CatalogParts.make_on.Goals as goal

pub returns-clause-makes : goal.returns-clause-makes
returns-clause-makes c = made_on c.args.names.now c.put.new.names c.args.shelf.now c.put.new.self
    c.args.name.now c.args.kind (content_of c.new.result) c.new.ensures
    c.in_ok-check_new.ensures.ok.free c.in_ok-put.ensures.names c.in_ok-put.ensures.held
