use Rattle.std.specs.FinMap as maps
use Rattle.replay.proofs.UndoLemmas.{IsUndoing}
use Rattle.replay.proofs.undoing.undo_all.Given as goal

abbrev pub invariant-loop-number : goal.invariant-loop-number
invariant-loop-number l = IsUndoing l.fn.machine l.machine l.records.items

abbrev pub decreases-loop-number : goal.decreases-loop-number
decreases-loop-number l = maps.len l.machine.live
