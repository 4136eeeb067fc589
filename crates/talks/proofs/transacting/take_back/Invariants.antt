use Rattle.std.proofs.Common.{◌≡◌, List, length}
use Rattle.talks.specs.Talks.{AreTried}
use Rattle.talks.proofs.transacting.take_back.Given as goal

abbrev pub invariant-loop : goal.invariant-loop
invariant-loop g l =
    (responses : List _) × AreTried g.S.Speaker l.fn.speaker responses l.speaker ×
    (length responses ≡ l.counter)
