use Rattle.std.proofs.Common.{◌≡◌, OnOk, refl, sym, ap, ◌∙◌, subst}
use Rattle.catalog.specs.Fours.{which_of, pick, put}
use Rattle.txn.specs.declared.actions.Action.{Action}
use Rattle.txn.specs.Shelved.{LeadsOn, IsOfBook, IsServed, SettlesMade}
use Rattle.txn.proofs.BookParts.{of_book, book_told, book_kept}
use Rattle.group_commit.specs.Twins.{EndState}
use Rattle.desks.proofs.ShelfSteps.{twin_is, here, known_on}
use Rattle.desks.proofs.Touching.{leads_on, shelf_touched}
use Rattle.desks.proofs.making.make_on.Goals as goal

-- the far end is of the twin
pub compare-requires-clause-far : goal.compare-requires-clause-far
compare-requires-clause-far g c = twin_is g.J.Naming.shelves c.args.twins.now
    (which_of c.place-at.result) c.held.inside.far.table c.of-twin.result.now c.requires.twins
    c.of-twin.ensures
    (c.held.invariant.table ∙ ap (pick g.J.Naming.shelves) (sym c.place-at.ensures.which))

pub note_touch-requires-clause-far : goal.note_touch-requires-clause-far
note_touch-requires-clause-far g c = ap (λ (v : EndState _). v.table) c.compare.ensures.far ∙
    twin_is g.J.Naming.shelves c.args.twins.now (which_of c.place-at.result)
    c.held.inside.far.table c.of-twin.result.now c.requires.twins c.of-twin.ensures
    (c.held.invariant.table ∙ ap (pick g.J.Naming.shelves) (sym c.place-at.ensures.which))

-- the shelf that is held is the one that the ends know
pub make-made-requires : goal.make-made-requires
make-made-requires g c =
    let w = which_of c.place-at.result in
    let f = c.requires.known.0 in
    let known = c.requires.known.1 in
    let there = here g.J.Naming c.args.journal.now c.args.nears.now f known w c.held.inside.shelf
    c.of_mut-near.result.now c.held.inside.far c.of_mut-near.ensures.value c.compare.ensures.same
    c.held.invariant.leads in
    record {
      kept = subst (λ v. IsOfBook g.B.Boosted.meaning g.B.Parts.making g.B.Parts.collections
          g.B.Parts.whole g.B.Parts.fits v c.args.journal.now c.held.inside.shelf)
          (c.place-at.ensures.which ∙ sym c.requires.turn)
          (of_book w c.args.journal.now f known.book c.held.inside.shelf there);
    }

pub invariant_of-held : goal.invariant_of-held
invariant_of-held g c = shelf_touched g.J.Naming.shelves g.Q.Quarter.which c.make-made.new.shelf
    c.compare.new.far c.note_touch.new.far _
    (ap (λ (v : EndState _). v.table) c.compare.ensures.far ∙ c.held.invariant.table)
    c.note_touch.ensures.far refl

pub returns : goal.returns
returns g c = λ f known.
    let w = which_of c.place-at.result in
    let k = c.args.journal.now in
    let l = c.make-made.new.self in
    let s = c.held.inside.shelf in
    let t = c.make-made.new.shelf in
    let e = c.note_touch.new.near in
    let there = here g.J.Naming k c.args.nears.now f known w s c.of_mut-near.result.now
    c.held.inside.far c.of_mut-near.ensures.value c.compare.ensures.same c.held.invariant.leads in
    let leads = subst (λ v. LeadsOn g.B.Boosted.meaning g.B.Parts.making g.B.Parts.collections
    g.B.Parts.whole g.B.Parts.fits
    (λ b d. IsServed g.B.Boosted.meaning g.B.Parts.making g.B.Parts.collections
    (Action.Make c.args.name.now c.args.kind) c.make-made.result
    (OnOk c.make-made.result
    (SettlesMade g.B.Boosted.meaning g.B.Parts.making c.args.name.now c.args.kind b d)) b d)
    v k s l t) (c.requires.turn ∙ sym c.place-at.ensures.which) c.make-made.ensures in
    let table : e.table ≡ (pick c.args.nears.now w).table =
    ap (λ (v : EndState _). v.table) c.note_touch.ensures.near ∙
    ap (λ (v : EndState _). v.table) c.compare.ensures.near ∙
    ap (λ (v : EndState _). v.table) c.of_mut-near.ensures.value in (
      put f w t,
      known_on g.J.Naming k c.args.nears.now f known w l t e table
          (leads_on c.compare.new.near e _ t c.note_touch.ensures.near refl)
          (book_kept w k f known.book s there l t leads),
      book_told w k f known.book s there l t leads,
    )
