use Rattle.std.proofs.Common.{rules, ◌≡◌, [], ◌∷◌, ap, refl, sym, ◌∙◌, subst, arith}
use Rattle.atomic_table.specs.Table.{keeps}
use Rattle.group_commit.specs.declared.view.View.{View}
use Rattle.group_commit.specs.Lines.{ClientState, IsLonger, steps_of, mine_of}
use Rattle.group_commit.specs.Histories.{SeatView, alone, party, party_of}
use Rattle.group_commit.proofs.Moves.{HaveMet, meets, with_other, have_met}
use Rattle.group_commit.proofs.line.Line.meet.Goals as goal

pub load-requires : goal.load-requires
load-requires c =
    let v = c.board.new.host.me.0 in
    let me = party_of c.one.inside.seat.me.0.parties in
    let you = party_of c.other.inside.seat.me.0.parties in
    let is : v ≡ alone (party you.number you.seen ∷ party me.number me.seen ∷ []) =
    with_other v c.one.inside.seat.me.0 c.other.inside.seat.me.0 me.number you.number me.seen
    you.seen (ap (λ (m : SeatView). m.0) c.board.ensures.host.1)
    (ap (λ (m : SeatView). m.0) c.one.invariant)
    (ap (λ (m : SeatView). m.0) c.other.invariant) in (
      search rules,
      omega (arith, c.self.invariant),
      λ s k len at lt.
          let next = meets s.views k c.board.new.host.id v at (party you.number you.seen)
          (party me.number me.seen ∷ []) (ap (λ (u : View). u.parties) is) in
          (next.0, keeps, tt, next.1, (next.2, refl)),
    )

-- what the two know then

-- what the two know then
met : (c : goal.After-alight)
    → HaveMet c.load.new.seat.me.0 (party_of c.one.inside.seat.me.0.parties).number
    (party_of c.other.inside.seat.me.0.parties).number
    (party_of c.one.inside.seat.me.0.parties).seen (party_of c.other.inside.seat.me.0.parties).seen
    c.load.ensures.2.0.longest
met c =
    have_met c.board.new.host.me.0 c.load.new.seat.me.0 _ _ _ _
    (with_other c.board.new.host.me.0 c.one.inside.seat.me.0 c.other.inside.seat.me.0 _ _ _ _
    (ap (λ (m : SeatView). m.0) c.board.ensures.host.1)
    (ap (λ (m : SeatView). m.0) c.one.invariant) (ap (λ (m : SeatView). m.0) c.other.invariant))
    c.load.ensures.2.0

pub returns-clause-longer : goal.returns-clause-longer
returns-clause-longer c =
    let now = ap (λ (m : SeatView). m.0) c.alight.ensures.host.1 ∙ (met c).one in
    subst (λ (u : View). IsLonger c.args.one.now.seen c.args.other.now.seen
    (party_of u.parties).seen) (sym now)
    (subst (λ (s : ClientState). IsLonger s.seen c.args.other.now.seen
    c.load.ensures.2.0.longest) c.one.view_is
    (subst (λ (s : ClientState). IsLonger (party_of c.one.inside.seat.me.0.parties).seen s.seen
    c.load.ensures.2.0.longest) c.other.view_is (met c).longer))

pub returns-clause-mine : goal.returns-clause-mine
returns-clause-mine c =
    let now = ap (λ (m : SeatView). m.0) c.alight.ensures.host.1 ∙ (met c).one in
    ap (λ (u : View). steps_of (party_of u.parties).number (party_of u.parties).seen) now ∙
    ((met c).mine ∙ ap mine_of c.one.view_is)

pub returns-clause-mine_of_other : goal.returns-clause-mine_of_other
returns-clause-mine_of_other c =
    let now = ap (λ (m : SeatView). m.0) c.alight.ensures.guest.1 ∙ (met c).other in
    ap (λ (u : View). steps_of (party_of u.parties).number (party_of u.parties).seen) now ∙
    ((met c).others ∙ ap mine_of c.other.view_is)
