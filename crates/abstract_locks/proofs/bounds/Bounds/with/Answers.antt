use Rattle.std.proofs.Common.{inl, inr, arith}
use Rattle.abstract_locks.proofs.Covering.{wider_covers}
use Rattle.abstract_locks.proofs.bounds.Bounds.with.Goals as goal

pub returns-clause-own : goal.returns-clause-own
returns-clause-own c =
    wider_covers _ c.args.self.now (record {
      low = omega arith;
      high = omega arith;
      widest = omega arith;
      first = omega arith;
      last = omega arith;
      modes = λ m there. (c.with.ensures m).1 (inl there);
    })

pub returns-clause-others : goal.returns-clause-others
returns-clause-others c =
    wider_covers _ c.args.other.now (record {
      low = omega arith;
      high = omega arith;
      widest = omega arith;
      first = omega arith;
      last = omega arith;
      modes = λ m there. (c.with.ensures m).1 (inr there);
    })
