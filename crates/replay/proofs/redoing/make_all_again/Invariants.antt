use Rattle.replay.proofs.TakenBack.{IsMakingSo}
use Rattle.replay.proofs.redoing.make_all_again.Given as goal

abbrev pub invariant-loop-owned : goal.invariant-loop-owned
invariant-loop-owned g l = IsMakingSo g.B.Boosted.meaning l.entries l.initial.parts l.owned-index
    l.parts
