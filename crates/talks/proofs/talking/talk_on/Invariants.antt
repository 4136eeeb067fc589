use Rattle.talks.proofs.TalkLemmas.{IsSoFar}
use Rattle.talks.proofs.talking.talk_on.Given as goal

-- rounds so far, and what the next line begins with
abbrev pub invariant-loop : goal.invariant-loop
invariant-loop g l =
    IsSoFar g.S.Speaker (g.I.Read.remaining l.fn.lines) (g.I.Read.remaining l.lines)
    (g.H.Hearer.heard l.fn.hearer) (g.H.Hearer.heard l.hearer) l.fn.speaker l.speaker
    l.pending.is_undone l.pending.line.items
