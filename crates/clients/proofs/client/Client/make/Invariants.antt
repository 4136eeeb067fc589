use Rattle.std.specs.Prelude.{◌≡◌}
use Rattle.clients.proofs.client.Client.make.Given as goal

-- nothing has happened
abbrev pub invariant-loop : goal.invariant-loop
invariant-loop g l = l.self ≡ l.fn.self
