use Rattle.std.proofs.Common.{rules, ◌≡◌, ap, ◌∙◌, refl, arith}
use Rattle.atomic_table.specs.Table.{keeps}
use Rattle.group_commit.specs.declared.twin.Sides.{Sides}
use Rattle.group_commit.specs.Twins.{SeatView, added}
use Rattle.group_commit.proofs.Twinned.{adds, parts}
use Rattle.group_commit.proofs.twin.Twin.touch.Goals as goal

pub fetch_add-requires : goal.fetch_add-requires
fetch_add-requires g c =
    let v = c.unite.new.near.me.0 in
    let joined = c.unite.ensures.near.1 in
    let t = g.W.OneTouch.touch in (
      search rules,
      omega (arith, c.self.invariant),
      λ s k len at lt. (
        added t v,
        keeps,
        tt,
        adds s.views k c.unite.new.near.id v at t
            (ap (λ (m : SeatView _). m.0.near) joined)
            (ap (λ (m : SeatView _). m.0.far) joined),
        (refl, refl),
      ),
    )

pub split_seat-requires : goal.split_seat-requires
split_seat-requires g c =
    let joined = c.unite.ensures.near.1 in
    let is : c.fetch_add.new.seat.me.0 ≡ added g.W.OneTouch.touch c.unite.new.near.me.0 = c.fetch_add.ensures.2.0 in (
      search rules,
      omega (arith, c.self.invariant),
      λ s k at. parts s.views k c.fetch_add.new.seat.id c.fetch_add.new.seat.me.0 at (λ l. l)
          (ap (λ (v : Sides _). v.near) is ∙ ap (λ (m : SeatView _). m.0.near) joined)
          (ap (λ (v : Sides _). v.far) is ∙ ap (λ (m : SeatView _). m.0.far) joined),
    )
