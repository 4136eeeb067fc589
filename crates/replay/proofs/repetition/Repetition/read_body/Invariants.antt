use Rattle.std.proofs.Common.{length}
use Rattle.replay.proofs.RepeatLemmas.{IsReading}
use Rattle.replay.proofs.repetition.Repetition.read_body.Given as goal

abbrev pub invariant-loop-rest : goal.invariant-loop-rest
invariant-loop-rest l = IsReading l.fn.body l.rest l.fn.self.kind l.fn.self.stage l.fn.self.next
    l.so_far.kind l.so_far.stage l.so_far.next

abbrev pub decreases-loop-rest : goal.decreases-loop-rest
decreases-loop-rest l = length l.rest
