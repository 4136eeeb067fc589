use Rattle.std.proofs.Common.{take}
use Rattle.std.specs.List.{All}
use Rattle.abstract_locks.specs.Bounds.{IsWithin}
use Rattle.abstract_locks.proofs.segment.bounds_of.Given as goal

abbrev pub invariant-loop-hold : goal.invariant-loop-hold
invariant-loop-hold l = All (IsWithin l.bounds) (take l.hold-index l.holds)
