use Rattle.talks.proofs.LeadLemmas.{IsSoFar}
use Rattle.boost_main.proofs.doorway.Doorway.serve_all.Given as goal

-- how far the talks went on, and that nothing is open
abbrev pub invariant-loop-word : goal.invariant-loop-word
invariant-loop-word g l =
    IsSoFar g.J.Naming.origin l.fn.client l.fn.told.told l.client l.told.told
