use Rattle.std.proofs.Common.{rules, ap, refl, arith}
use Rattle.atomic_table.specs.Table.{keeps}
use Rattle.group_commit.specs.Twins.{SeatView}
use Rattle.group_commit.proofs.Twinned.{leaves, joins, compares}
use Rattle.group_commit.proofs.twin.Twin.unite.Goals as goal

pub split_seat-whole-requires : goal.split_seat-whole-requires
split_seat-whole-requires g c = (
  search rules,
  omega (arith, c.self.invariant),
  λ s k at. leaves s.views k c.args.far.now.id c.args.far.now.me.0
      at (ap (λ (m : SeatView _). m.0.far) c.requires.far.1),
)

pub join_seat-requires : goal.join_seat-requires
join_seat-requires g c =
    let whole = c.split_seat-whole.ensures in (
      search rules,
      search rules,
      ap (λ (m : SeatView _). m.1) whole.4,
      omega (arith, c.self.invariant),
      λ s k at apart there. joins s.views k c.args.near.now.id c.args.near.now.me.0
          at c.split_seat-whole.result.id c.split_seat-whole.result.me.0
          (ap (λ (m : SeatView _). m.0.near) c.requires.near.1)
          (ap (λ (m : SeatView _). m.0.far) whole.4) apart there,
    )

pub load-requires : goal.load-requires
load-requires g c =
    let v = c.join_seat.new.seat.me.0 in
    let joined = c.join_seat.ensures.2 in (
      search rules,
      omega (arith, c.self.invariant),
      λ s k len at lt.
          let told = compares s.views k c.join_seat.new.seat.id v
          at (ap (λ (m : SeatView _). m.0.near) joined) (ap (λ (m : SeatView _). m.0.far) joined) in
          (v, keeps, tt, told.0, (refl, told.1)),
    )

pub returns-clause-same : goal.returns-clause-same
returns-clause-same g c = search rules
