use Rattle.std.proofs.Common.{rules, ap, refl, arith}
use Rattle.std.specs.Prelude.{slice_index}
use Rattle.atomic_table.specs.Table.{keeps}
use Rattle.group_commit.specs.Drawing.{SeatView, drawer, hand_of, with_drawn}
use Rattle.group_commit.proofs.Drawers.{draws}
use Rattle.group_commit.proofs.numbers.Numbers.next.Goals as goal

pub fetch_add-requires : goal.fetch_add-requires
fetch_add-requires c =
    let v = c.args.seat.now.me.0 in
    let h = hand_of v.hands in (
      search rules,
      omega (arith, c.self.invariant),
      λ s k len at lt.
          let next = draws s.words s.views k c.args.seat.now.id v at h
          (ap (λ (m : SeatView). m.0) c.requires.alone) c.requires.drawer in (
            drawer (with_drawn h (slice_index s.words 0)),
            keeps,
            tt,
            next.0,
            (refl, next.1, next.2, refl),
          ),
    )
