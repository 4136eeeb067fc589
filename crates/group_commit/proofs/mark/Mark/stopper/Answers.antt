use Rattle.std.proofs.Common.{rules, arith}
use Rattle.group_commit.proofs.Marking.{permits}
use Rattle.group_commit.proofs.mark.Mark.stopper.Goals as goal

pub split_seat-seat-requires : goal.split_seat-seat-requires
split_seat-seat-requires c = (
  search rules,
  omega (arith, c.self.invariant),
  λ s k at. permits s.words s.views k c.from.inside.seat.id c.from.inside.seat.me.0 at,
)

pub returns-clause-from : goal.returns-clause-from
returns-clause-from c = search rules
