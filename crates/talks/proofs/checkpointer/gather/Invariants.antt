use Rattle.std.proofs.Common.{◌≡◌, ℕ}
use Rattle.talks.specs.Plays.{Plays}
use Rattle.talks.specs.Checkpoints.{copied}
use Rattle.talks.proofs.checkpointer.gather.Given as goal

abbrev pub invariant-loop : goal.invariant-loop
invariant-loop g l = (k : ℕ) × (k ≡ l.counter) ×
    Plays g.D.Disk l.fn.world (copied k) l.world
