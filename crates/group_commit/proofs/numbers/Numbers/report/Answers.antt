use Rattle.std.proofs.Common.{rules, ap, refl, sym, subst, arith}
use Rattle.atomic_table.specs.Table.{keeps}
use Rattle.group_commit.specs.declared.numbers.Draw.{Draw}
use Rattle.group_commit.specs.Numbers.{AreOfOne}
use Rattle.group_commit.specs.Drawing.{SeatView}
use Rattle.group_commit.proofs.Drawers.{tells, boards, compares}
use Rattle.group_commit.proofs.numbers.Numbers.report.Goals as goal

pub split_seat-report-requires : goal.split_seat-report-requires
split_seat-report-requires c = (
  search rules,
  omega (arith, c.self.invariant),
  λ s k at. tells s.words s.views k c.drawer.inside.seat.id c.drawer.inside.seat.me.0 at,
)

pub join_seat-requires : goal.join_seat-requires
join_seat-requires c =
    let report = c.split_seat-report.ensures in (
      search rules,
      search rules,
      ap (λ (m : SeatView). m.1) report.4,
      omega (arith, c.self.invariant),
      λ s k at apart there. boards s.words s.views k c.maker.inside.seat.id
          c.maker.inside.seat.me.0
          at c.split_seat-report.result.id c.split_seat-report.result.me.0 apart there,
    )

pub load-requires : goal.load-requires
load-requires c =
    let v = c.join_seat.new.seat.me.0 in (
      search rules,
      omega (arith, c.self.invariant),
      λ s k len at lt.
          let next = compares s.words s.views k c.join_seat.new.seat.id v at in
          (v, keeps, tt, next.0, (refl, next.1, next.2, refl)),
    )

pub returns-clause-of_one : goal.returns-clause-of_one
returns-clause-of_one c =
    subst (λ (u : Draw). AreOfOne u.reports) (sym c.load.ensures.2.0) c.load.ensures.2.2
