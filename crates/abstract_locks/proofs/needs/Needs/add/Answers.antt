use Rattle.std.proofs.Common.{◌↔◌, IsTrue, set, subst}
use Rattle.std.proofs.lemmas.List.Elements.{All-weaker}
use Rattle.std.specs.List.{Contains}
use Rattle.abstract_locks.specs.Bounds.{IsWithin}
use Rattle.abstract_locks.specs.Holds.{IsAdded}
use Rattle.abstract_locks.specs.Segments.{all_holds, IsSegmentOf}
use Rattle.abstract_locks.proofs.Granting.{added_at, all_still}
use Rattle.abstract_locks.proofs.Placing.{segment_added, segment_fresh}
use Rattle.abstract_locks.proofs.needs.Needs.add.Goals as goal

pub invariant_of-self : goal.invariant_of-self
invariant_of-self c =
    let items = c.self.inside.segments.items in
    let place = c.place_of-place.result in
    let new = c.add.new.self in
    let hold = c.args.hold in
    let wide = c.with-self-inside.result in
    let x = c.index_mut.result.now in
    let here : IsSegmentOf items hold place =
    rw (← c.deref.ensures.value) c.place_of-place.ensures in
    let lt = rw c.deref-2.ensures.value at (c.is_open.ensures.room c.if-is_open.true).0 in
    let own = subst (λ s. IsAdded s new hold) c.index_mut.ensures.value c.add.ensures.held in
    let added = added_at (λ s. s) items place x new hold lt own in
    record {
      ordered = segment_added items place hold x lt c.self.invariant.ordered here new own
          c.add.ensures.order;
      within = all_still (all_holds items) (all_holds (set items place new)) hold added
          (IsWithin wide) (c.with-self-inside.ensures.others hold c.of.ensures)
          (All-weaker (IsWithin c.self.inside.bounds) (IsWithin wide)
          c.with-self-inside.ensures.own (all_holds items) c.self.invariant.within);
      empty = c.self.invariant.empty;
    }

pub invariant_of-self-else-is_open : goal.invariant_of-self-else-is_open
invariant_of-self-else-is_open c =
    let items = c.self.inside.segments.items in
    let hold = c.args.hold in
    let wide = c.with-self-inside.result in
    record {
      ordered = c.add_with.ensures.order;
      within = all_still (all_holds items) (all_holds c.add_with.new.segments.items) hold
          c.add_with.ensures.held (IsWithin wide)
          (c.with-self-inside.ensures.others hold c.of.ensures)
          (All-weaker (IsWithin c.self.inside.bounds) (IsWithin wide)
          c.with-self-inside.ensures.own (all_holds items) c.self.invariant.within);
      empty = rw c.take.ensures.after tt;
    }

pub returns-then-is_open : goal.returns-then-is_open
returns-then-is_open c =
    let items = c.self.inside.segments.items in
    let place = c.place_of-place.result in
    let new = c.add.new.self in
    let hold = c.args.hold in
    let x = c.index_mut.result.now in
    let here : IsSegmentOf items hold place =
    rw (← c.deref.ensures.value) c.place_of-place.ensures in
    let lt = rw c.deref-2.ensures.value at (c.is_open.ensures.room c.if-is_open.true).0 in
    rw (← c.self.view_is) (record {
      held = added_at (λ s. s) items place x new hold lt
          (subst (λ s. IsAdded s new hold) c.index_mut.ensures.value c.add.ensures.held);
      fresh = segment_fresh items place hold x lt c.self.invariant.ordered here
          (subst (λ s. IsTrue c.add.result ↔ (Contains s hold → ⊥)) c.index_mut.ensures.value
          c.add.ensures.fresh);
    })

pub returns-in-Some : goal.returns-in-Some
returns-in-Some c = rw (← c.self.view_is) (record {
  held = c.add_with.ensures.held;
  fresh = c.add_with.ensures.fresh;
})
