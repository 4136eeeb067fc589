use Rattle.abstract_locks.specs.Bounds.{IsWithin}
use Rattle.abstract_locks.specs.Segments.{all_holds}
use Rattle.abstract_locks.proofs.Rising.{all_left}
use Rattle.abstract_locks.proofs.needs.Needs.remove.Goals as goal

pub invariant_of-self-else-is_free : goal.invariant_of-self-else-is_free
invariant_of-self-else-is_free c = record {
  ordered = c.remove_at.ensures.order;
  within = all_left (IsWithin c.self.inside.bounds) (all_holds c.self.inside.segments.items)
      (all_holds c.remove_at.new.segments.items) c.args.hold.now c.remove_at.ensures.holds
      c.self.invariant.within;
  empty = c.self.invariant.empty;
}

pub returns-then-is_free-clause-holds : goal.returns-then-is_free-clause-holds
returns-then-is_free-clause-holds c = rw (← c.self.view_is) c.remove_at.ensures.holds

pub returns-else-is_free-clause-holds : goal.returns-else-is_free-clause-holds
returns-else-is_free-clause-holds c = rw (← c.self.view_is) c.remove_at.ensures.holds
