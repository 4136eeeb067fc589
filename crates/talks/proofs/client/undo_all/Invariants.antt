use Rattle.std.proofs.Common.{◌≡◌, ℕ}
use Rattle.talks.specs.Plays.{Plays}
use Rattle.talks.specs.Clients.{undone}
use Rattle.talks.proofs.client.undo_all.Given as goal

abbrev pub invariant-loop : goal.invariant-loop
invariant-loop g l = (k : ℕ) × (k ≡ l.counter) ×
    Plays g.D.Disk l.fn.world (undone l.fn.number k) l.world
