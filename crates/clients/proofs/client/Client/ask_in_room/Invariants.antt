use Rattle.clients.specs.Calls.{IsEntering}
use Rattle.clients.proofs.client.Client.ask_in_room.Given as goal

-- the number is entered at most
abbrev pub invariant-loop : goal.invariant-loop
invariant-loop g l = IsEntering g.J.Naming.origin l.fn.self.phase l.fn.self l.self
