use Rattle.std.proofs.Common.{arith}
use Rattle.abstract_locks.specs.Order.{IsGap}
use Rattle.abstract_locks.proofs.Rising.{rises_remove, is_removed, none_removed, not_there}
use Rattle.abstract_locks.proofs.segment.Segment.remove.Goals as goal

pub invariant_of-self : goal.invariant_of-self
invariant_of-self c =
    let items = c.self.inside.holds.items in
    let at = rw c.deref.ensures.value at c.in-Ok.ensures in
    let few = c.self.invariant.few in
    let room = c.self.invariant.room in
    let fewer = c.remove.ensures.len in
    let capacity = c.remove.ensures.capacity in
    record {
      rises = rw c.remove.ensures.items (rises_remove items c.in-Ok.place c.args.hold.now at.0
          (at.1 c.args.hold.now) c.self.invariant.rises);
      within = rw (← c.deref-in-Ok.ensures.value) c.narrowed-removed.ensures;
      few = omega arith;
      room = omega arith;
    }

pub returns-in-Ok-clause-holds : goal.returns-in-Ok-clause-holds
returns-in-Ok-clause-holds c =
    let items = c.self.inside.holds.items in
    let at = rw c.deref.ensures.value at c.in-Ok.ensures in
    rw (← c.self.view_is, c.remove.ensures.items)
    (is_removed items c.in-Ok.place c.args.hold.now at.0 (at.1 c.args.hold.now)
    c.self.invariant.rises)

pub returns-in-Ok-clause-order : goal.returns-in-Ok-clause-order
returns-in-Ok-clause-order c =
    let items = c.self.inside.holds.items in
    let at = rw c.deref.ensures.value at c.in-Ok.ensures in
    rw c.remove.ensures.items
    (rises_remove items c.in-Ok.place c.args.hold.now at.0 (at.1 c.args.hold.now)
    c.self.invariant.rises)

pub returns-in_default-clause-holds : goal.returns-in_default-clause-holds
returns-in_default-clause-holds c =
    let items = c.self.inside.holds.items in
    let gap : IsGap items c.args.hold.now c.in_default.field-0 =
    rw (← c.deref.ensures.value) c.in_default.ensures in
    rw (← c.self.view_is)
    (none_removed items c.args.hold.now (not_there items c.in_default.field-0 c.args.hold.now gap))
