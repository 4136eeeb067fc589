use Rattle.abstract_locks.proofs.Ordering.{compared}
use Rattle.abstract_locks.proofs.segment.compare_rest.Goals as goal

pub returns : goal.returns
returns c =
    rw (
      c.then-3.ensures,
      c.then-2.ensures,
      c.then.ensures,
      c.cmp.ensures,
      c.cmp-2.ensures,
      c.cmp-3.ensures,
      c.cmp-4.ensures,
      c.rank.ensures,
      c.rank-2.ensures,
    ) (compared c.args.one.now c.args.other.now)
