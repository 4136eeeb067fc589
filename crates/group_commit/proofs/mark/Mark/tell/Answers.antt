use Rattle.std.proofs.Common.{rules, ap, arith}
use Rattle.group_commit.specs.Rising.{Seat}
use Rattle.group_commit.proofs.Marking.{reports, hears}
use Rattle.group_commit.proofs.mark.Mark.tell.Goals as goal

pub split_seat-told-requires : goal.split_seat-told-requires
split_seat-told-requires c = (
  search rules,
  omega (arith, c.self.invariant),
  λ s k at. reports s.words s.views k c.keeper.inside.seat.id c.keeper.inside.seat.me.0 at
      (ap (λ (m : Seat). m.0) c.keeper.invariant),
)

pub join_seat-requires : goal.join_seat-requires
join_seat-requires c =
    let told = c.split_seat-told.ensures in (
      search rules,
      search rules,
      ap (λ (m : Seat). m.1) told.4,
      omega (arith, c.self.invariant),
      λ s k at apart there.
          hears s.words s.views k c.watcher.inside.seat.id c.watcher.inside.seat.me.0
          at (ap (λ (m : Seat). m.0.sets) c.watcher.invariant) c.split_seat-told.result.id
          c.split_seat-told.result.me.0 (ap (λ (m : Seat). m.0.sets) told.4) apart there,
    )
