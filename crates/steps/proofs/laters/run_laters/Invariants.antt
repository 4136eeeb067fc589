use Rattle.steps.proofs.DeferredRuns.{IsRunningSo}
use Rattle.steps.proofs.laters.run_laters.Given as goal

abbrev pub invariant-loop-stamped : goal.invariant-loop-stamped
invariant-loop-stamped g l = IsRunningSo g.C.Boosted.meaning l.quarter l.entries
    l.initial.collections
    l.stamped-index l.collections l.count
