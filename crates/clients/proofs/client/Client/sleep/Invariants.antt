use Rattle.std.proofs.Common.{List, Bool}
use Rattle.group_commit.specs.declared.mark.Raised.{Raised}
use Rattle.clients.specs.Calls.{Hears}
use Rattle.clients.proofs.client.Client.sleep.Given as goal

-- counts and flags were loaded
abbrev pub invariant-loop : goal.invariant-loop
invariant-loop g l = (counts : List Raised) × (flags : List Bool) ×
    Hears l.fn.self counts flags l.self
