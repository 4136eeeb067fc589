use Rattle.std.proofs.Common.{rules, ap, arith}
use Rattle.group_commit.specs.Twins.{SeatView}
use Rattle.group_commit.proofs.Twinned.{parts}
use Rattle.group_commit.proofs.twin.Twin.compare.Goals as goal

pub split_seat-requires : goal.split_seat-requires
split_seat-requires g c =
    let united = c.unite.ensures.near.1 in (
      search rules,
      omega (arith, c.self.invariant),
      λ s k at. parts s.views k c.unite.new.near.id c.unite.new.near.me.0 at (λ g. g)
          (ap (λ (m : SeatView _). m.0.near) united) (ap (λ (m : SeatView _). m.0.far) united),
    )
