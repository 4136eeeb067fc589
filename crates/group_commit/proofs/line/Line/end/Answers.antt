use Rattle.std.proofs.Common.{rules, ap, refl, subst, arith}
use Rattle.atomic_table.specs.Table.{keeps}
use Rattle.group_commit.specs.declared.view.View.{View}
use Rattle.group_commit.specs.Histories.{SeatView, AreCounted}
use Rattle.group_commit.proofs.Moves.{counts, with_crowd}
use Rattle.group_commit.proofs.line.Line.end.Goals as goal

pub load-requires : goal.load-requires
load-requires c =
    let v = c.board.new.host.me.0 in
    let b = c.args.book in
    let is = with_crowd v c.into_seat-seat.result.me.0 c.into_seat-guest.result.me.0 b.all
    b.clients c.args.crowd.clients (ap (λ (m : SeatView). m.0) c.board.ensures.host.1)
    (ap (λ (m : SeatView). m.0) c.into_seat-seat.ensures.1)
    (ap (λ (m : SeatView). m.0) c.into_seat-guest.ensures.1) in (
      search rules,
      omega (arith, c.self.invariant),
      λ s k len at lt.
          let next = counts s.views k c.board.new.host.id v at (ap (λ (u : View). u.keeps) is) in
          (v, keeps, tt, next.0, (refl, next.1, refl)),
    )

-- the crowd stood with the book's seat, and was counted
pub returns : goal.returns
returns c =
    let b = c.args.book in
    subst (λ (u : View). AreCounted u.parties u.made u.all)
    (with_crowd c.board.new.host.me.0 c.into_seat-seat.result.me.0 c.into_seat-guest.result.me.0
    b.all b.clients c.args.crowd.clients (ap (λ (m : SeatView). m.0) c.board.ensures.host.1)
    (ap (λ (m : SeatView). m.0) c.into_seat-seat.ensures.1)
    (ap (λ (m : SeatView). m.0) c.into_seat-guest.ensures.1)) c.load.ensures.2.1
