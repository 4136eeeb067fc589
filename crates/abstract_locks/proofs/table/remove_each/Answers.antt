use Rattle.std.proofs.Common.{◌∙◌, ◌≤◌, take, take_all, get_or, subst, sym}
use Rattle.std.proofs.lemmas.List.{take_more}
use Rattle.calls.specs.declared.need.Mode.{Mode}
use Rattle.abstract_locks.specs.declared.table.Hold.{Hold}
use Rattle.abstract_locks.specs.Claimed.{Claimed}
use Rattle.abstract_locks.specs.Holds.{IsRemoved}
use Rattle.abstract_locks.proofs.Collections.{none_gone, one_gone, not_there, found_at}
use Rattle.abstract_locks.proofs.table.remove_each.Goals as goal
use Rattle.abstract_locks.proofs.table.remove_each.Goals.{then-place-collections}
use Rattle.abstract_locks.proofs.table.remove_each.Goals.{else-place-collections}

-- what stands past the last
past : Hold
past = record { owner = 0; at = 0; need = record { low = 0; high = 0; mode = Mode.Read } }

pub loop-hold-init : goal.loop-hold-init
loop-hold-init c = none_gone c.args.collections.now c.requires

pub loop-hold-preserved : goal.loop-hold-preserved
unfolding past
loop-hold-preserved c =
    let holds = c.args.holds.now in
    let i = c.loop-hold.hold-index in
    let xs = c.args.collections.now in
    let ys = c.loop-hold.collections in
    let place = c.from-place.result in
    let h = get_or holds i past in
    rw (take_more holds i past c.loop-hold-test.true)
    (elim c.if-place-collections.branch [
      | then-place-collections w ↦
          let new = w.remove.new.self in
          let lt = w.if-place-collections.true in
          let was = w.index-collections-place in
          let here = sym was.is ∙ found_at ys place was.result lt was.is in
          rw w.collections-is
          (one_gone (take i holds) xs ys c.loop-hold.invariant h place new c.from-place.ensures lt
          (subst (λ (x : Claimed). IsRemoved x.holds new.holds h) here w.remove.ensures.holds)
          (subst (λ (x : Claimed). x.room ≤ new.room) here w.remove.ensures.room))
      | else-place-collections w ↦
          rw w.collections-is
          (not_there (take i holds) xs ys c.loop-hold.invariant h
          (rw c.from-place.ensures at w.if-place-collections.false))
    ])

pub returns-clause-without : goal.returns-clause-without
returns-clause-without c =
    rw (take_all c.loop-hold.hold-index c.args.holds.now c.loop-hold-test.false)
    at c.loop-hold.invariant
