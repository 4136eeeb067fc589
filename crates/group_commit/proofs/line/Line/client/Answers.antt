use Rattle.std.proofs.Common.{rules, ap, arith}
use Rattle.group_commit.specs.Histories.{SeatView}
use Rattle.group_commit.proofs.Moves.{admits}
use Rattle.group_commit.proofs.line.Line.client.Goals as goal

pub split_seat-seat-requires : goal.split_seat-seat-requires
split_seat-seat-requires c = (
  search rules,
  omega (arith, c.self.invariant),
  λ s k at. admits s.views k c.book.inside.seat.id c.book.inside.seat.me.0
      at (ap (λ (m : SeatView). m.0.keeps) c.book.invariant),
)

pub invariant_of-result : goal.invariant_of-result
invariant_of-result c = search rules
