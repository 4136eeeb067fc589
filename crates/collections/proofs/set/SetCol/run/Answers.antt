use Rattle.std.proofs.Common.{◌∙◌, ap}
use Rattle.std.specs.FinSet as set
use Rattle.collections.proofs.Trees.{set_of-insert, set_of-remove}
use Rattle.collections.proofs.set.SetCol.run.Goals as goal

pub returns-in_ok-insert-in-SetAdd-Yes-clause-ok :
    goal.returns-in_ok-insert-in-SetAdd-Yes-clause-ok
returns-in_ok-insert-in-SetAdd-Yes-clause-ok c =
    rw (c.in-SetAdd-Yes.is-0, c.in-SetAdd-Yes.is-1)
    (set_of-insert _ _ _ c.in_ok-insert-in-SetAdd-Yes.ensures.updates
    ∙ ap (λ s. set.insert s c.in-SetAdd-Yes.element) c.self.view_is)

pub returns-in-SetRemove-Yes-clause-ok : goal.returns-in-SetRemove-Yes-clause-ok
returns-in-SetRemove-Yes-clause-ok c =
    rw (c.in-SetRemove-Yes.is-0, c.in-SetRemove-Yes.is-1)
    (set_of-remove _ _ _ c.remove.ensures.updates
    ∙ ap (λ s. set.remove s c.in-SetRemove-Yes.element) c.self.view_is)

pub returns-in-Pick-Id-clause-ok : goal.returns-in-Pick-Id-clause-ok
returns-in-Pick-Id-clause-ok c =
    rw (c.in-Pick-Id.is-0, c.in-Pick-Id.is-1)
    (set_of-remove _ _ _ c.remove-in-Pick-Id.ensures.updates
    ∙ ap (λ s. set.remove s c.in-Pick-Id.element) c.self.view_is)
