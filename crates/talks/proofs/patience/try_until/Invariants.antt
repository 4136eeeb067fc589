use Rattle.std.proofs.Common.{[]}
use Rattle.talks.specs.Hearing.{Hears}
use Rattle.talks.proofs.PatienceLemmas.{AreInVain}
use Rattle.talks.proofs.patience.try_until.Given as goal

-- tries so far, each of which was taken back
abbrev pub invariant-loop : goal.invariant-loop
invariant-loop g l = AreInVain g.S.Speaker l.fn.speaker l.calls l.speaker ×
    Hears (g.H.Hearer.heard l.fn.hearer) (g.H.Hearer.heard l.hearer) []
