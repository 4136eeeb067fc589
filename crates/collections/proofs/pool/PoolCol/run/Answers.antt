use Rattle.std.proofs.Common.{◌∙◌, ap}
use Rattle.std.specs.FinSet as set
use Rattle.collections.proofs.Trees.{set_of-insert, set_of-remove}
use Rattle.collections.proofs.pool.PoolCol.run.Goals as goal

pub returns-in_ok-insert-in-Draw-Id-clause-ok : goal.returns-in_ok-insert-in-Draw-Id-clause-ok
returns-in_ok-insert-in-Draw-Id-clause-ok c =
    rw (c.in-Draw-Id.is-0, c.in-Draw-Id.is-1)
    (set_of-insert _ _ _ c.in_ok-insert-in-Draw-Id.ensures.updates
    ∙ ap (λ s. set.insert s c.in-Draw-Id.x) c.self.view_is)

pub returns-in-Free-default-clause-ok : goal.returns-in-Free-default-clause-ok
returns-in-Free-default-clause-ok c =
    rw c.in-Free-default.is-0
    (set_of-remove _ _ _ c.remove.ensures.updates
    ∙ ap (λ s. set.remove s c.in-Free-default.x) c.self.view_is)
