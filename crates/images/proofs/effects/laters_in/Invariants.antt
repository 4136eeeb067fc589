use Rattle.std.proofs.Common.{None, ◌≡◌, ◌++◌, map, drop}
use Rattle.steps.proofs.DeferredRuns.{deferred}
use Rattle.images.specs.Gatherings.{effect_at}
use Rattle.images.proofs.effects.laters_in.Given as goal

abbrev pub invariant-loop-stamped : goal.invariant-loop-stamped
invariant-loop-stamped l = l.effects.items ++
    map (effect_at l.lsn) (deferred None (drop l.stamped-index l.entries)) ≡
    map (effect_at l.lsn) (deferred None l.entries)
