use Rattle.std.proofs.Common.{rules, ap, refl, arith}
use Rattle.atomic_table.specs.Table.{keeps}
use Rattle.group_commit.specs.Rising.{Seat, keeper, raised_to}
use Rattle.group_commit.proofs.Marking.{advances}
use Rattle.group_commit.proofs.mark.Mark.advance.Goals as goal

pub fetch_max-requires : goal.fetch_max-requires
fetch_max-requires g c =
    let v = c.keeper.inside.seat.me.0 in
    let is = ap (λ (m : Seat). m.0) c.keeper.invariant in (
      search rules,
      omega (arith, c.self.invariant),
      λ s k len at lt. (
        keeper (raised_to c.args.place g.W.OneMoment.moment v.raised) v.stops,
        keeps,
        tt,
        advances s.words s.views k c.keeper.inside.seat.id v at c.args.place g.W.OneMoment.moment is,
        (refl, refl),
      ),
    )
