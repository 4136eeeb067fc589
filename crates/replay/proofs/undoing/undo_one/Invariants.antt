use Rattle.std.proofs.Common.{length}
use Rattle.calls.specs.Transactions.{own, calls_of}
use Rattle.replay.proofs.UndoLemmas.{IsTakingBack}
use Rattle.replay.proofs.undoing.undo_one.Given as goal

abbrev pub invariant-loop-machine : goal.invariant-loop-machine
invariant-loop-machine l = IsTakingBack l.fn.number l.fn.machine l.machine l.fn.records.items
    l.records.items

abbrev pub decreases-loop-machine : goal.decreases-loop-machine
decreases-loop-machine l = length (calls_of (own l.fn.number l.machine.entries))
