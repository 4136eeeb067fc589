use Rattle.std.proofs.Common.{rules, ap, arith}
use Rattle.group_commit.specs.Histories.{SeatView}
use Rattle.group_commit.proofs.Moves.{leaves, boards}
use Rattle.group_commit.proofs.line.Line.board.Goals as goal

pub split_seat-whole-requires : goal.split_seat-whole-requires
split_seat-whole-requires c = (
  search rules,
  omega (arith, c.self.invariant),
  λ s k at. leaves s.views k c.args.guest.now.id c.args.guest.now.me.0 at c.requires.guest.1,
)

pub join_seat-requires : goal.join_seat-requires
join_seat-requires c =
    let whole = c.split_seat-whole.ensures in (
      search rules,
      search rules,
      ap (λ (m : SeatView). m.1) whole.4,
      omega (arith, c.self.invariant),
      λ s k at apart there. boards s.views k c.args.host.now.id c.args.host.now.me.0
          at c.split_seat-whole.result.id c.split_seat-whole.result.me.0 apart there,
    )
