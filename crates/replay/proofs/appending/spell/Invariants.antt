use Rattle.std.specs.Prelude.{vec_capacity}
use Rattle.replay.proofs.AppendLemmas.{IsSpelling}
use Rattle.replay.proofs.appending.spell.Given as goal

abbrev pub invariant-loop-i : goal.invariant-loop-i
invariant-loop-i l = IsSpelling l.fn.group l.fn.bytes.items l.bytes.items (vec_capacity l.fn.bytes)
    (vec_capacity l.bytes) l.i
