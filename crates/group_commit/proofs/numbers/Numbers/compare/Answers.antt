use Rattle.std.proofs.Common.{rules, ◌≢◌, ap, refl, subst, arith}
use Rattle.atomic_table.specs.Table.{keeps}
use Rattle.group_commit.specs.declared.numbers.Draw.{Draw}
use Rattle.group_commit.specs.Numbers.{DrawerState, AreApart}
use Rattle.group_commit.specs.Drawing.{SeatView, AllApart, hand_of}
use Rattle.group_commit.proofs.Drawers.{compares, with_other, two_apart}
use Rattle.group_commit.proofs.numbers.Numbers.compare.Goals as goal

pub load-requires : goal.load-requires
load-requires c =
    let v = c.board.new.host.me.0 in (
      search rules,
      omega (arith, c.self.invariant),
      λ s k len at lt.
          let next = compares s.words s.views k c.board.new.host.id v at in
          (v, keeps, tt, next.0, (refl, next.1, next.2, refl)),
    )

-- the two drawers stood with one seat
apart : (c : goal.After-alight)
    → ((hand_of c.one.inside.seat.me.0.hands).number ≢
    (hand_of c.other.inside.seat.me.0.hands).number)
    × AreApart (hand_of c.one.inside.seat.me.0.hands).drawn
    (hand_of c.other.inside.seat.me.0.hands).drawn
apart c =
    two_apart _ _
    (subst (λ (u : Draw). AllApart u.hands)
    (with_other c.board.new.host.me.0 c.one.inside.seat.me.0 c.other.inside.seat.me.0 _ _
    (ap (λ (m : SeatView). m.0) c.board.ensures.host.1)
    (ap (λ (m : SeatView). m.0) c.one.invariant.view)
    (ap (λ (m : SeatView). m.0) c.other.invariant.view))
    c.load.ensures.2.1)

pub returns-clause-distinct : goal.returns-clause-distinct
returns-clause-distinct c =
    subst (λ (s : DrawerState). s.number ≢ c.args.other.now.number) c.one.view_is
    (subst (λ (s : DrawerState). (hand_of c.one.inside.seat.me.0.hands).number ≢ s.number)
    c.other.view_is (apart c).0)

pub returns-clause-apart : goal.returns-clause-apart
returns-clause-apart c =
    subst (λ (s : DrawerState). AreApart s.drawn c.args.other.now.drawn) c.one.view_is
    (subst (λ (s : DrawerState). AreApart (hand_of c.one.inside.seat.me.0.hands).drawn s.drawn)
    c.other.view_is (apart c).1)
