use Rattle.std.proofs.Common.{rules, ◌≡◌, ap, arith}
use Rattle.group_commit.specs.declared.numbers.Draw.{Draw}
use Rattle.group_commit.specs.Drawing.{SeatView, maker}
use Rattle.group_commit.proofs.Drawers.{makes}
use Rattle.group_commit.proofs.numbers.Numbers.drawer.Goals as goal

pub split_seat-seat-requires : goal.split_seat-seat-requires
split_seat-seat-requires c =
    let v = c.maker.inside.seat.me.0 in
    let is : v ≡ maker v.from c.maker.inside.made v.left v.reports =
    ap (λ (m : SeatView). m.0) c.maker.invariant.view in
    let few = c.if-maker-ge-MAX_CLIENTS.false in
    let count = c.maker.invariant.count in (
      search rules,
      omega (arith, c.self.invariant),
      λ s k at. makes s.words s.views k c.maker.inside.seat.id v at (ap (λ (u : Draw). u.makes) is)
          (omega arith) (ap (λ (u : Draw). u.hands) is),
    )

pub invariant_of-result : goal.invariant_of-result
invariant_of-result c = search rules
