use Rattle.std.proofs.Common.{take}
use Rattle.abstract_locks.specs.Segments.{all_holds, IsLeast}
use Rattle.abstract_locks.proofs.needs.Needs.least_blocker.Given as goal

abbrev pub invariant-loop-segment : goal.invariant-loop-segment
invariant-loop-segment l =
    IsLeast (all_holds (take l.segment-index l.segment-items)) l.owner l.at l.need l.least
