use Rattle.std.proofs.Common.{◌≡◌, []}
use Rattle.talks.specs.Hearing.{Hears}
use Rattle.talks.proofs.patience.rest.Given as goal

-- nothing was said, and nothing is heard
abbrev pub invariant-loop : goal.invariant-loop
invariant-loop g l = (l.speaker ≡ l.fn.speaker) ×
    Hears (g.H.Hearer.heard l.fn.hearer) (g.H.Hearer.heard l.hearer) []
