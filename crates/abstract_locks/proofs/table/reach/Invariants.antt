use Rattle.std.proofs.Common.{◌≤◌, ◌+◌, ◌-◌, length, vec_len}
use Rattle.abstract_locks.specs.Collections.{AreAlike}
use Rattle.abstract_locks.proofs.table.reach.Given as goal

abbrev pub invariant-loop-alloc : goal.invariant-loop-alloc
invariant-loop-alloc l = record {
  alike : AreAlike l.initial.collections.items l.collections.items;
  longer : length l.initial.collections.items ≤ length l.collections.items;
}

abbrev pub decreases-loop-alloc : goal.decreases-loop-alloc
decreases-loop-alloc l = l.place + 1 - vec_len l.collections
