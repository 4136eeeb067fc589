use Rattle.std.proofs.Common.{rules, arith}
use Rattle.group_commit.proofs.Moves.{alights}
use Rattle.group_commit.proofs.line.Line.nobody.Goals as goal

pub split_seat-seat-requires : goal.split_seat-seat-requires
split_seat-seat-requires c = (
  search rules,
  omega (arith, c.self.invariant),
  λ s k at. alights s.views k c.book.inside.seat.id c.book.inside.seat.me.0 at,
)
