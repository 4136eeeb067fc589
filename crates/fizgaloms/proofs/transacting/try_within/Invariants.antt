use Rattle.fizgaloms.proofs.Trying.{Goes}
use Rattle.fizgaloms.proofs.transacting.try_within.Given as goal

-- the attempts before this one were refused
abbrev pub invariant-loop-number : goal.invariant-loop-number
invariant-loop-number g l =
    Goes g.J.Naming (g.T.Transaction.refuses l.fn.transaction) l.fn.attempts l.fn.client
    l._number l.client
