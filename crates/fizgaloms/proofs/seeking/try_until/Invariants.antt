use Rattle.fizgaloms.proofs.Trying.{Seeks}
use Rattle.fizgaloms.proofs.seeking.try_until.Given as goal

-- the attempts before this one were refused
abbrev pub invariant-loop : goal.invariant-loop
invariant-loop g l =
    Seeks g.J.Naming (g.T.Transaction.refuses l.fn.transaction) l.fn.client l.client
