use Rattle.std.proofs.lemmas.Result.{IfErr-weaker}
use Rattle.catalog.proofs.Whole.{belongs_shelf, belongs_whole, asked_whole}
use Rattle.catalog.proofs.catalog.CatalogBoosted.askable.Goals as goal

pub returns-clause-ok : goal.returns-clause-ok
returns-clause-ok c = (
  λ is. let can = c.askable.ensures.ok.0 is in (
    belongs_whole c.self.inside.names c.self.inside.shelves c.self.invariant c.args.self.now
        c.self.view_is c.args.at c.of.result.now c.of.ensures c.args.call.now can.0,
    can.1,
    can.2,
  ),
  λ can. c.askable.ensures.ok.1 (
    belongs_shelf c.self.inside.names c.self.inside.shelves c.self.invariant c.args.self.now
        c.self.view_is c.args.at c.of.result.now c.of.ensures c.args.call.now can.0,
    can.1,
    can.2,
  ),
)

pub returns-clause-err : goal.returns-clause-err
returns-clause-err c = IfErr-weaker c.askable.result _ _
    (asked_whole c.self.inside.names c.self.inside.shelves c.self.invariant c.args.self.now
    c.self.view_is c.args.at c.of.result.now c.of.ensures c.args.call.now)
    c.askable.ensures.err
