use Rattle.std.proofs.Common.{ℕ, ◌<◌, ◌↔◌, IsTrue, MatchOption, Option, Some, None, sym, ◌∙◌, ap}
use Rattle.std.proofs.Common.{subst, arith, true≢false, refl, List}
use Rattle.std.specs.Option.{is_some}
use Rattle.calls.specs.Bags.{copies}
use Rattle.collections.specs.declared.heap.Holder.{Holder}
use Rattle.collections.specs.Holders.{bag_of, HasNoCopy, IsCopyAt}
use Rattle.collections.proofs.Holders.{has_copy, no_copy}
use Rattle.collections.proofs.queue.QueueCol.has.Goals as goal

-- what a look for the pair tells
told : (hs : List Holder) (p g : ℕ) (o : Option ℕ) →
    MatchOption o (HasNoCopy hs p g) (λ k. IsCopyAt hs k p g) →
    IsTrue (is_some o) ↔ (0 < copies (bag_of hs) (p, g))
told hs p g None none = (
  λ t. absurd (true≢false (sym t)),
  λ l. absurd (let n = no_copy hs p g none in omega arith),
)
told hs p g (Some k) at = (λ t. has_copy hs k p g at, λ l. refl)

pub returns : goal.returns
returns c = rw c.is_some.ensures
    (subst (λ b. IsTrue (is_some c.find.result) ↔ (0 < copies b (c.args.priority, c.args.tag)))
    (ap bag_of c.deref.ensures.value ∙ c.self.view_is)
    (told c.deref.result.now c.args.priority c.args.tag c.find.result c.find.ensures))
