use Rattle.std.proofs.Common.{◌+◌, sym, ◌∙◌, ap, true≢false}
use Rattle.std.specs.FinSet as set
use Rattle.collections.proofs.Trees.{none_above, none_at_all}
use Rattle.collections.proofs.pool.PoolCol.untaken.Goals as goal

pub returns-in-None : goal.returns-in-None
returns-in-None c =
    ap (λ s. set.contains s 0) (sym c.self.view_is)
    ∙ none_at_all c.self.inside.taken 0 (λ l. true≢false (sym (c.in-None.ensures.variant.1 l)))

pub returns-in-Some : goal.returns-in-Some
returns-in-Some c =
    ap (λ s. set.contains s (c.in-Some.field-0.now + 1)) (sym c.self.view_is)
    ∙ none_above c.self.inside.taken c.in-Some.field-0.now c.in-Some.ensures.greatest
