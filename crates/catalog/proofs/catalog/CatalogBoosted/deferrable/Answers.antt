use Rattle.std.proofs.lemmas.Result.{IfErr-weaker}
use Rattle.catalog.proofs.Whole.{belongs_shelf, belongs_whole, deferred_whole}
use Rattle.catalog.proofs.catalog.CatalogBoosted.deferrable.Goals as goal

pub returns-clause-ok : goal.returns-clause-ok
returns-clause-ok c = (
  λ is. let can = c.deferrable.ensures.ok.0 is in (
    belongs_whole c.self.inside.names c.self.inside.shelves c.self.invariant c.args.self.now
        c.self.view_is c.args.at c.of.result.now c.of.ensures c.args.call.now can.0,
    can.1,
  ),
  λ can. c.deferrable.ensures.ok.1 (
    belongs_shelf c.self.inside.names c.self.inside.shelves c.self.invariant c.args.self.now
        c.self.view_is c.args.at c.of.result.now c.of.ensures c.args.call.now can.0,
    can.1,
  ),
)

pub returns-clause-err : goal.returns-clause-err
returns-clause-err c = IfErr-weaker c.deferrable.result _ _
    (deferred_whole c.self.inside.names c.self.inside.shelves c.self.invariant c.args.self.now
    c.self.view_is c.args.at c.of.result.now c.of.ensures c.args.call.now)
    c.deferrable.ensures.err
