use Rattle.world.proofs.TransitLemmas.{Leaves}
use Rattle.world.proofs.transit.Transit.room_behind.Given as goal

abbrev pub invariant-loop-i : goal.invariant-loop-i
invariant-loop-i l = Leaves l.fn.self.blocks.items l.fn.free l.room l.i
