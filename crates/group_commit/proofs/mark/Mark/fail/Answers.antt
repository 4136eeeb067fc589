use Rattle.std.proofs.Common.{rules, ◌+◌, ap, refl, arith}
use Rattle.atomic_table.specs.Table.{keeps}
use Rattle.group_commit.specs.declared.mark.Tide.{Tide}
use Rattle.group_commit.specs.Rising.{Seat}
use Rattle.group_commit.proofs.Marking.{fails, warns, hears}
use Rattle.group_commit.proofs.mark.Mark.fail.Goals as goal

pub store-requires : goal.store-requires
store-requires c =
    let v : Tide = c.keeper.inside.seat.me.0 in (
      search rules,
      omega (arith, c.self.invariant),
      λ s k len at lt. (
        record v { stops = v.stops + 1 },
        keeps,
        tt,
        fails s.words s.views k c.keeper.inside.seat.id v at
            (ap (λ (m : Seat). m.0.sets) c.keeper.invariant),
        (refl, refl),
      ),
    )

pub split_seat-told-requires : goal.split_seat-told-requires
split_seat-told-requires c =
    let was = ap (λ (v : Tide). v.stops) c.store.ensures.2.0 in (
      search rules,
      omega (arith, c.self.invariant),
      λ s k at. warns s.words s.views k c.store.new.seat.id c.store.new.seat.me.0 at
          (omega (arith, was)),
    )

pub join_seat-requires : goal.join_seat-requires
join_seat-requires c =
    let told = c.split_seat-told.ensures in (
      search rules,
      search rules,
      ap (λ (m : Seat). m.1) told.4,
      omega (arith, c.self.invariant),
      λ s k at apart there. hears s.words s.views k c.watcher.inside.seat.id
          c.watcher.inside.seat.me.0 at (ap (λ (m : Seat). m.0.sets) c.watcher.invariant)
          c.split_seat-told.result.id c.split_seat-told.result.me.0
          (ap (λ (m : Seat). m.0.sets) told.4) apart there,
    )
