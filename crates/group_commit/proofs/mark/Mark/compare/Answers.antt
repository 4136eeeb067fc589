use Rattle.std.proofs.Common.{rules, ◌≡◌, ◌∙◌, ap, sym, subst, refl, arith}
use Rattle.atomic_table.specs.Table.{keeps}
use Rattle.group_commit.specs.declared.mark.Tide.{Tide}
use Rattle.group_commit.specs.Marks.{AreNoted, KeeperMark, WatcherState}
use Rattle.group_commit.specs.Rising.{Seat, keeper, shown}
use Rattle.group_commit.proofs.Marking.{tells, shows, compares}
use Rattle.group_commit.proofs.mark.Mark.compare.Goals as goal

pub split_seat-told-requires : goal.split_seat-told-requires
split_seat-told-requires c = (
  search rules,
  omega (arith, c.self.invariant),
  λ s k at. tells s.words s.views k c.watcher.inside.seat.id c.watcher.inside.seat.me.0 at,
)

pub join_seat-requires : goal.join_seat-requires
join_seat-requires c =
    let told = c.split_seat-told.ensures in (
      search rules,
      search rules,
      ap (λ (m : Seat). m.1) told.4,
      omega (arith, c.self.invariant),
      λ s k at apart there.
          shows s.words s.views k c.keeper.inside.seat.id c.keeper.inside.seat.me.0
          at (ap (λ (m : Seat). m.0) c.keeper.invariant)
          c.split_seat-told.result.id c.split_seat-told.result.me.0
          (ap (λ (m : Seat). m.0.sets) told.4) apart there,
    )

pub load-requires : goal.load-requires
load-requires c =
    let joined = c.join_seat.ensures in
    let v = c.join_seat.new.seat.me.0 in
    let was : v ≡ shown c.keeper.inside.seat.me.0.raised c.split_seat-told.result.me.0.counts
    c.keeper.inside.seat.me.0.stops = ap (λ (m : Seat). m.0) joined.2 in
    let is : v ≡ shown v.raised v.counts v.stops =
    subst (λ (u : Tide). u ≡ shown u.raised u.counts u.stops) (sym was) refl in (
      search rules,
      omega (arith, c.self.invariant),
      λ s k len at lt.
          let told = compares s.words s.views k c.join_seat.new.seat.id v at is in
          (keeper v.raised v.stops, keeps, tt, told.0, (refl, told.1, refl)),
    )

pub returns-clause-noted : goal.returns-clause-noted
returns-clause-noted c =
    let now = c.join_seat.new.seat.me.0 in
    let was = ap (λ (m : Seat). m.0) c.join_seat.ensures.2 in
    let counts = ap (λ (u : Tide). u.counts) was ∙
    ap (λ (m : Seat). m.0.counts) c.split_seat-told.ensures.4 in
    subst (λ counts. AreNoted counts c.args.keeper.now.raised)
    (counts ∙ ap (λ (w : WatcherState). w.counts) c.watcher.view_is)
    (subst (AreNoted now.counts)
    (ap (λ (u : Tide). u.raised) was ∙ ap (λ (k : KeeperMark). k.raised) c.keeper.view_is)
    c.load.ensures.2.1)
