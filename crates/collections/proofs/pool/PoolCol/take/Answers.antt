use Rattle.std.proofs.Common.{◌∙◌, ap}
use Rattle.std.specs.FinSet as set
use Rattle.collections.proofs.Trees.{set_of-insert}
use Rattle.collections.proofs.pool.PoolCol.take.Goals as goal

pub returns-clause-ok : goal.returns-clause-ok
returns-clause-ok c = set_of-insert _ _ _ c.in_ok-insert.ensures.updates ∙
    ap (λ s. set.insert s c.args.identifier) c.self.view_is
