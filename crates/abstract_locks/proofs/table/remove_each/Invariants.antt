use Rattle.std.proofs.Common.{take}
use Rattle.abstract_locks.specs.Collections.{AreWithout}
use Rattle.abstract_locks.proofs.table.remove_each.Given as goal

abbrev pub invariant-loop-hold : goal.invariant-loop-hold
invariant-loop-hold l = AreWithout (take l.hold-index l.holds) l.initial.collections l.collections
