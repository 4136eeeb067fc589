use Rattle.recovery.proofs.CopyLemmas.{Counted}
use Rattle.recovery.proofs.settling.image_len.Given as goal

abbrev pub invariant-loop-i : goal.invariant-loop-i
invariant-loop-i l = Counted l.fn.image.blocks.items l.len l.i
