use Rattle.boost_main.proofs.ScriptClients.{HaveLinesBelow}
use Rattle.boost_main.proofs.script_work.clients_of.Given as goal

-- the clients so far that have lines
abbrev pub invariant-loop-client : goal.invariant-loop-client
invariant-loop-client l = HaveLinesBelow l.client l.clients.items l.lines
