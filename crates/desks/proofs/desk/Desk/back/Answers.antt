use Rattle.std.proofs.Common.{◌≡◌, Some, refl, sym, ap, ◌∙◌, subst}
use Rattle.catalog.specs.Fours.{which_of, pick, put}
use Rattle.txn.specs.declared.actions.Action.{Action}
use Rattle.txn.specs.Shelved.{HasNewestAt, book_state}
use Rattle.txn.proofs.BookParts.{of_book, book_told, book_kept}
use Rattle.group_commit.specs.Twins.{EndState}
use Rattle.desks.specs.Desks.{DeskState}
use Rattle.desks.specs.Touches.{IsJournalDesk}
use Rattle.desks.proofs.Owning.{kept_named}
use Rattle.desks.proofs.ShelfSteps.{twin_is, here, known_on, steps_over, steps_journal, owns_step}
use Rattle.desks.proofs.Touching.{leads_on, shelf_touched}
use Rattle.desks.proofs.Undoing.{undone_fewer}
use Rattle.desks.proofs.desk.Desk.back.Given.{Over}
use Rattle.desks.proofs.desk.Desk.back.Goals as goal

abbrev action : (g : Over) → goal.After-wake g → Action
action g c = Action.Back c.args.handle.number c.back-undone.result

-- the far end is of the twin
pub compare-requires-clause-far : goal.compare-requires-clause-far
compare-requires-clause-far g c = twin_is g.J.Naming.shelves c.args.shelves.now.twins
    (which_of c.args.at) c.held.inside.far.table c.of-twin.result.now c.args.shelves.now.twins_are
    c.of-twin.ensures
    (c.held.invariant.table ∙ ap (pick g.J.Naming.shelves) (sym c.requires.place))

pub note_touch-requires-clause-far : goal.note_touch-requires-clause-far
note_touch-requires-clause-far g c = ap (λ (v : EndState _). v.table) c.compare.ensures.far ∙
    twin_is g.J.Naming.shelves c.args.shelves.now.twins (which_of c.args.at)
    c.held.inside.far.table c.of-twin.result.now c.args.shelves.now.twins_are c.of-twin.ensures
    (c.held.invariant.table ∙ ap (pick g.J.Naming.shelves) (sym c.requires.place))

-- the shelf that is held is the one that the ends know
pub back-undone-requires-clause-kept : goal.back-undone-requires-clause-kept
back-undone-requires-clause-kept g c =
    let i = c.self.inside in
    let is = c.self.invariant.0 in
    let w = which_of c.args.at in
    of_book w i.journal is.shelves is.known.book c.held.inside.shelf
    (here g.J.Naming i.journal i.nears is.shelves is.known w c.held.inside.shelf
    c.of_mut-near.result.now c.held.inside.far c.of_mut-near.ensures.value c.compare.ensures.same
    c.held.invariant.leads)

pub back-undone-requires-clause-newest : goal.back-undone-requires-clause-newest
back-undone-requires-clause-newest g c =
    subst (λ (v : DeskState). HasNewestAt c.args.handle.number v.entries c.args.at)
    (sym c.self.view_is) c.requires.newest

keeps : (g : Over) (c : goal.After-wake g) → IsJournalDesk g.J.Naming g.B.Boosted.meaning
    g.B.Parts.making g.B.Parts.collections g.B.Parts.whole g.B.Parts.fits c.back-undone.new.self
    (put c.self.inside.nears (which_of c.args.at) c.note_touch.new.near) c.note.new.seat
    c.self.inside.sender c.self.inside.near
keeps g c =
    let i = c.self.inside in
    let is = c.self.invariant.0 in
    let w = which_of c.args.at in
    let l = c.back-undone.new.self in
    let s = c.held.inside.shelf in
    let t = c.back-undone.new.shelf in
    let e = c.note_touch.new.near in
    let there = here g.J.Naming i.journal i.nears is.shelves is.known w s
    c.of_mut-near.result.now c.held.inside.far c.of_mut-near.ensures.value c.compare.ensures.same
    c.held.invariant.leads in
    let served = book_told w i.journal is.shelves is.known.book s there l t c.back-undone.ensures in
    let table : e.table ≡ (pick i.nears w).table =
    ap (λ (v : EndState _). v.table) c.note_touch.ensures.near ∙
    ap (λ (v : EndState _). v.table) c.compare.ensures.near ∙
    ap (λ (v : EndState _). v.table) c.of_mut-near.ensures.value in
    steps_over g.J.Naming g.met.B.Coded.told (Some c.args.me.now.number) i.journal i.nears i.seat
    i.sender i.near is l (put i.nears w e) (put is.shelves w t) c.note.new.seat (action g c)
    (owns_step g.J.Naming is c.args.me.now c.args.handle.number (action g c) c.note.ensures.seen
    c.requires.own refl refl)
    (known_on g.J.Naming i.journal i.nears is.shelves is.known w l t e table
    (leads_on c.compare.new.near e _ t c.note_touch.ensures.near refl)
    (book_kept w i.journal is.shelves is.known.book s there l t c.back-undone.ensures))
    served.answer
    served.goes c.note.ensures.book

pub invariant_of-self : goal.invariant_of-self
invariant_of-self g c = kept_named c.self.inside.maker c.self.inside.seat c.note.new.seat
    c.self.invariant (keeps g c) c.args.me.now c.args.handle.number (action g c) c.note.ensures.seen
    c.requires.own refl c.note.ensures.book

pub invariant_of-held : goal.invariant_of-held
invariant_of-held g c = shelf_touched g.J.Naming.shelves g.Q.Quarter.which c.back-undone.new.shelf
    c.compare.new.far c.note_touch.new.far _
    (ap (λ (v : EndState _). v.table) c.compare.ensures.far ∙ c.held.invariant.table)
    c.note_touch.ensures.far refl

pub returns-clause-step : goal.returns-clause-step
returns-clause-step g c = steps_journal g.J.Naming c.back-undone.new.self
    (put c.self.inside.nears (which_of c.args.at) c.note_touch.new.near) c.self.inside.seat
    c.note.new.seat c.self.inside.sender c.self.inside.near c.args.me.now c.note.new.me
    (action g c) (keeps g c) c.note.ensures.book c.note.ensures.client c.note.ensures.seen
    c.note.ensures.mine

pub returns-clause-fewer : goal.returns-clause-fewer
returns-clause-fewer g c =
    let i = c.self.inside in
    let is = c.self.invariant.0 in
    let w = which_of c.args.at in
    let l = c.back-undone.new.self in
    let t = c.back-undone.new.shelf in
    let there = here g.J.Naming i.journal i.nears is.shelves is.known w c.held.inside.shelf
    c.of_mut-near.result.now c.held.inside.far c.of_mut-near.ensures.value c.compare.ensures.same
    c.held.invariant.leads in
    let served = book_told w i.journal is.shelves is.known.book c.held.inside.shelf there l t
    c.back-undone.ensures in
    rw (← c.self.view_is) (undone_fewer g.B.Boosted.meaning g.B.Parts.making
    (book_state g.B.Parts.whole i.journal is.shelves)
    (book_state g.B.Parts.whole l (put is.shelves w t)) c.args.handle.number c.args.at
    c.back-undone.result served.answer
    (subst (λ (v : DeskState). HasNewestAt c.args.handle.number v.entries c.args.at)
    (sym c.self.view_is) c.requires.newest))
