use Rattle.std.proofs.Common.{◌≡◌}
use Rattle.clients.proofs.client.Client.end.Given as goal

-- nothing happened
abbrev pub invariant-loop : goal.invariant-loop
invariant-loop g l = l.self ≡ l.fn.self
