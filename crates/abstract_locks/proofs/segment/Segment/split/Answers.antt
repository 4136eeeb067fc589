use Rattle.std.proofs.Common.{◌≡◌, ◌∙◌, ◌++◌, true, false, sym, subst, arith}
use Rattle.abstract_locks.specs.Order.{Rises}
use Rattle.abstract_locks.specs.Segments.{begins_by}
use Rattle.abstract_locks.proofs.Granting.{added_before, added_behind}
use Rattle.abstract_locks.proofs.Rising.{rises_left, rises_right, rises_between, front_of, back_of}
use Rattle.abstract_locks.proofs.Rising.{some_added, upper_rises, upper_fresh, lower_rises}
use Rattle.abstract_locks.proofs.Rising.{lower_fresh}
use Rattle.abstract_locks.proofs.segment.Segment.split.Goals as goal

pub invariant_of-spare : goal.invariant_of-spare
invariant_of-spare c =
    let lower = c.move_upper_half.new.holds.items in
    let upper = c.move_upper_half.new.upper.items in
    let short = c.move_upper_half.ensures.upper.1 in
    let more = c.move_upper_half.ensures.upper_capacity in
    let room = c.spare.invariant.room in
    record {
      rises = rises_right lower upper
          (subst Rises c.move_upper_half.ensures.all c.self.invariant.rises);
      within = rw (← c.deref-2.ensures.value) c.bounds_of-spare-inside.ensures;
      few = omega arith;
      room = omega arith;
    }

pub invariant_of-self : goal.invariant_of-self
invariant_of-self c =
    let lower = c.move_upper_half.new.holds.items in
    let upper = c.move_upper_half.new.upper.items in
    let short = c.move_upper_half.ensures.lower.1 in
    let same = c.move_upper_half.ensures.capacity in
    let room = c.self.invariant.room in
    record {
      rises = rises_left lower upper
          (subst Rises c.move_upper_half.ensures.all c.self.invariant.rises);
      within = rw (← c.deref.ensures.value) c.bounds_of-self-inside.ensures;
      few = omega arith;
      room = omega arith;
    }

pub invariant_of-self-else-begins_by : goal.invariant_of-self-else-begins_by
invariant_of-self-else-begins_by c =
    let lower = c.move_upper_half.new.holds.items in
    let upper = c.move_upper_half.new.upper.items in
    let short = c.move_upper_half.ensures.lower.1 in
    let same = c.move_upper_half.ensures.capacity in
    let room = c.self.invariant.room in
    record {
      rises = rises_left lower upper
          (subst Rises c.move_upper_half.ensures.all c.self.invariant.rises);
      within = rw (← c.deref.ensures.value) c.bounds_of-self-inside.ensures;
      few = omega arith;
      room = omega arith;
    }

pub returns-then-begins_by : goal.returns-then-begins_by
returns-then-begins_by c =
    let lower = c.move_upper_half.new.holds.items in
    let upper = c.move_upper_half.new.upper.items in
    let new = c.add.new.self in
    let hold = c.args.hold in
    let rises : Rises (lower ++ upper) =
    subst Rises c.move_upper_half.ensures.all c.self.invariant.rises in
    let begins : begins_by hold upper ≡ true = sym c.begins_by.ensures ∙ c.if-begins_by.true in
    let before = front_of lower upper hold (rises_between lower upper rises)
    c.move_upper_half.ensures.upper.0 begins in
    rw (← c.self.view_is, c.move_upper_half.ensures.all) (record {
      held = added_behind upper new hold c.add.ensures.held lower;
      fresh = upper_fresh lower upper new hold rises before c.add.ensures.fresh;
      order = upper_rises lower upper new hold rises before c.add.ensures.order c.add.ensures.held;
      filled = (c.move_upper_half.ensures.lower.0, some_added upper new hold c.add.ensures.held);
    })

pub returns-else-begins_by : goal.returns-else-begins_by
returns-else-begins_by c =
    let lower = c.move_upper_half.new.holds.items in
    let upper = c.move_upper_half.new.upper.items in
    let new = c.add-else-begins_by.new.self in
    let hold = c.args.hold in
    let added = c.add-else-begins_by.ensures in
    let rises : Rises (lower ++ upper) =
    subst Rises c.move_upper_half.ensures.all c.self.invariant.rises in
    let begins : begins_by hold upper ≡ false = sym c.begins_by.ensures ∙ c.if-begins_by.false in
    let behind = back_of upper hold (rises_right lower upper rises) begins in
    rw (← c.self.view_is, c.move_upper_half.ensures.all) (record {
      held = added_before lower new hold added.held upper;
      fresh = lower_fresh lower upper new hold rises behind added.fresh;
      order = lower_rises lower upper new hold rises behind added.order added.held;
      filled = (some_added lower new hold added.held, c.move_upper_half.ensures.upper.0);
    })
