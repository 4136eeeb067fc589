use Rattle.fizgaloms.specs.Works.{KnowsStill}
use Rattle.fizgaloms.proofs.transacting.take_back_at_last.Given as goal

-- the client knows still what it knew
abbrev pub invariant-loop : goal.invariant-loop
invariant-loop g l = KnowsStill l.fn.client l.client
