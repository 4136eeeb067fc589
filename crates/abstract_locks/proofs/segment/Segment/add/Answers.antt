use Rattle.std.proofs.Common.{◌≢◌, length, arith, refl, rules}
use Rattle.std.proofs.lemmas.List.Elements.{All-weaker}
use Rattle.std.specs.List.{insert}
use Rattle.abstract_locks.specs.Bounds.{IsWithin}
use Rattle.abstract_locks.specs.Order.{IsGap}
use Rattle.abstract_locks.specs.Segments.{segment_size}
use Rattle.abstract_locks.proofs.Granting.{all_still}
use Rattle.abstract_locks.proofs.Members.{inserted_is_added}
use Rattle.abstract_locks.proofs.Rising.{rises_insert, not_there}
use Rattle.abstract_locks.proofs.segment.Segment.add.Goals as goal

pub invariant_of-self : goal.invariant_of-self
invariant_of-self c =
    let items = c.self.inside.holds.items in
    let place = c.in-Err.place in
    let hold = c.args.hold in
    let wide = c.with-self-inside.result in
    let gap : IsGap items hold place = rw (← c.deref.ensures.value) c.in-Err.ensures in
    let few = c.self.invariant.few in
    let room = c.self.invariant.room in
    let more = c.in-Ok.ensures.len in
    let capacity = c.in-Ok.ensures.capacity in
    let open_yet : length items ≢ segment_size = rw c.self.view_is c.requires in
    record {
      rises = rw c.in-Ok.ensures.items (rises_insert items place hold c.self.invariant.rises gap);
      within = rw c.in-Ok.ensures.items
          (all_still items (insert items place hold) hold (inserted_is_added items place hold)
          (IsWithin wide) (c.with-self-inside.ensures.others hold c.of.ensures)
          (All-weaker (IsWithin c.self.inside.bounds) (IsWithin wide)
          c.with-self-inside.ensures.own items c.self.invariant.within));
      few = omega arith;
      room = omega arith;
    }

pub returns-clause-held : goal.returns-clause-held
returns-clause-held c =
    rw (← c.self.view_is, c.in-Ok.ensures.items)
    (inserted_is_added c.self.inside.holds.items c.in-Err.place c.args.hold)

pub returns-clause-fresh : goal.returns-clause-fresh
returns-clause-fresh c =
    let items = c.self.inside.holds.items in
    let gap : IsGap items c.args.hold c.in-Err.place =
    rw (← c.deref.ensures.value) c.in-Err.ensures in
    rw (← c.self.view_is)
    (λ yes. not_there items c.in-Err.place c.args.hold gap, λ none. refl)

pub returns-clause-order : goal.returns-clause-order
returns-clause-order c =
    let items = c.self.inside.holds.items in
    let gap : IsGap items c.args.hold c.in-Err.place =
    rw (← c.deref.ensures.value) c.in-Err.ensures in
    rw c.in-Ok.ensures.items
    (rises_insert items c.in-Err.place c.args.hold c.self.invariant.rises gap)

pub returns-in_default-clause-fresh : goal.returns-in_default-clause-fresh
returns-in_default-clause-fresh c = search rules
