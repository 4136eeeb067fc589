use Rattle.talks.proofs.LeadLemmas.{IsSoFar}
use Rattle.talks.proofs.dialogue.talk_through.Given as goal

-- how far the talks went on, and that nothing is open
abbrev pub invariant-loop : goal.invariant-loop
invariant-loop g l =
    IsSoFar g.J.Naming.origin l.fn.session.known l.fn.hearer.noted.told l.session.known
    l.hearer.noted.told
