use Rattle.std.proofs.Common.{take}
use Rattle.abstract_locks.specs.Segments.{IsLeast}
use Rattle.abstract_locks.proofs.segment.least_of.Given as goal

abbrev pub invariant-loop-hold : goal.invariant-loop-hold
invariant-loop-hold l = IsLeast (take l.hold-index l.holds) l.owner l.at l.need l.least
