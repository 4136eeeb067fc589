use Rattle.checkpoint.proofs.Blocks.{Leaves}
use Rattle.checkpoint.proofs.laying.room_behind.Given as goal

abbrev pub invariant-loop-i : goal.invariant-loop-i
invariant-loop-i l = Leaves l.fn.image.blocks.items l.fn.size l.room l.i
