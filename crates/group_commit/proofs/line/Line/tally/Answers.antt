use Rattle.std.proofs.Common.{rules, ◌≡◌, [], ◌∷◌, ◌++◌, ap, refl, sym, ◌∙◌, subst, inl, Some}
use Rattle.std.proofs.Common.{arith}
use mathlib.Core.List.{IsPrefix}
use Rattle.atomic_table.specs.Table.{keeps}
use Rattle.group_commit.specs.declared.view.View.{View}
use Rattle.group_commit.specs.Lines.{BookState, ClientState, mine_of, steps_of}
use Rattle.group_commit.specs.Histories.{SeatView, client, first_alone, IsTold, AllBegan, Began}
use Rattle.group_commit.specs.Histories.{tallied, hosting, party, party_of}
use Rattle.group_commit.proofs.Moves.{tallies, told_one, with_book, began_prefix, mine_tallied}
use Rattle.group_commit.proofs.line.Line.tally.Given.{Over}
use Rattle.group_commit.proofs.line.Line.tally.Goals as goal

pub fetch_add-requires : goal.fetch_add-requires
fetch_add-requires g c =
    let step = g.W.OneStep.step in
    let v = c.board.new.host.me.0 in
    let me = party_of c.client.inside.seat.me.0.parties in
    let is : v ≡ hosting c.book.inside.seat.me.0.all c.book.inside.seat.me.0.made
    (party me.number me.seen ∷ []) =
    with_book v c.book.inside.seat.me.0 c.client.inside.seat.me.0 me.number me.seen
    (ap (λ (m : SeatView). m.0) c.board.ensures.host.1)
    (ap (λ (m : SeatView). m.0) c.book.invariant)
    (ap (λ (m : SeatView). m.0) c.client.invariant) in
    let its = c.requires.step ∙ ap (λ (s : ClientState). Some s.number) (sym c.client.view_is) in
    let told : IsTold step v.parties =
    subst (λ (u : View). IsTold step u.parties) (sym is)
    (told_one step me.number me.seen its) in (
      search rules,
      omega (arith, c.self.invariant),
      λ s k len at lt.
          let next = tallies s.views k c.board.new.host.id v at (ap (λ (u : View). u.keeps) is) step
          told in
          (tallied step v, keeps, tt, next.0, (refl, next.1, refl)),
    )

-- the client's party stood with the book's seat
stood : (g : Over) (c : goal.After-alight g)
    → c.board.new.host.me.0 ≡ hosting c.book.inside.seat.me.0.all c.book.inside.seat.me.0.made
    (party (party_of c.client.inside.seat.me.0.parties).number
    (party_of c.client.inside.seat.me.0.parties).seen ∷ [])
stood g c =
    with_book c.board.new.host.me.0 c.book.inside.seat.me.0 c.client.inside.seat.me.0 _ _
    (ap (λ (m : SeatView). m.0) c.board.ensures.host.1)
    (ap (λ (m : SeatView). m.0) c.book.invariant)
    (ap (λ (m : SeatView). m.0) c.client.invariant)

-- and had seen a beginning of the history
began : (g : Over) (c : goal.After-alight g)
    → Began c.book.inside.seat.me.0.all
    (party (party_of c.client.inside.seat.me.0.parties).number
    (party_of c.client.inside.seat.me.0.parties).seen)
began g c = subst (λ (u : View). AllBegan u.all u.parties) (stood g c) c.fetch_add.ensures.2.1 _
    (inl refl)

pub returns-clause-seen : goal.returns-clause-seen
returns-clause-seen g c =
    subst (λ (s : ClientState). IsPrefix s.seen c.args.book.now.all) c.client.view_is
    (subst (λ (s : BookState). IsPrefix (party_of c.client.inside.seat.me.0.parties).seen s.all)
    c.book.view_is (began_prefix _ _ (began g c)))

pub returns-clause-mine : goal.returns-clause-mine
returns-clause-mine g c =
    let step = g.W.OneStep.step in
    let me = party_of c.client.inside.seat.me.0.parties in
    let all = c.book.inside.seat.me.0.all in
    let its = c.requires.step ∙ ap (λ (s : ClientState). Some s.number) (sym c.client.view_is) in
    let now : c.alight.new.guest.me.0 ≡ client me.number (all ++ step ∷ []) =
    ap (λ (m : SeatView). m.0) c.alight.ensures.guest.1 ∙
    (ap first_alone c.fetch_add.ensures.2.0 ∙
    ap (λ (u : View). first_alone (tallied step u)) (stood g c)) in
    ap (λ (u : View). steps_of (party_of u.parties).number (party_of u.parties).seen) now
    ∙ (mine_tallied all step me.number me.seen its (began g c) ∙
    ap (λ (s : ClientState). mine_of s ++ step ∷ []) c.client.view_is)
