use Rattle.std.proofs.Common.{rules, ◌+◌, ap, refl, arith}
use Rattle.atomic_table.specs.Table.{keeps}
use Rattle.group_commit.specs.declared.mark.Tide.{Tide}
use Rattle.group_commit.specs.Rising.{Seat}
use Rattle.group_commit.proofs.Marking.{fails}
use Rattle.group_commit.proofs.mark.Mark.stop.Goals as goal

pub store-requires : goal.store-requires
store-requires c =
    let v : Tide = c.stopper.inside.seat.me.0 in (
      search rules,
      omega (arith, c.self.invariant),
      λ s k len at lt. (
        record v { stops = v.stops + 1 },
        keeps,
        tt,
        fails s.words s.views k c.stopper.inside.seat.id v at
            (ap (λ (m : Seat). m.0.sets) c.stopper.invariant),
        (refl, refl),
      ),
    )
