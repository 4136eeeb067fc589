use Rattle.std.proofs.Common.{◌≡◌, Some, refl, sym, ap, ◌∙◌, subst}
use Rattle.catalog.specs.Fours.{which_of, pick, put}
use Rattle.steps.specs.Looks.{IsLooked}
use Rattle.txn.specs.declared.actions.Action.{Action}
use Rattle.txn.specs.declared.actions.Target.{Target}
use Rattle.txn.proofs.BookParts.{of_book, book_told, book_kept}
use Rattle.group_commit.specs.Twins.{EndState}
use Rattle.desks.specs.Touches.{IsJournalDesk}
use Rattle.desks.proofs.Owning.{kept_named}
use Rattle.desks.proofs.ShelfSteps.{twin_is, here, found_there, known_on, steps_over}
use Rattle.desks.proofs.ShelfSteps.{steps_journal, owns_step}
use Rattle.desks.proofs.Touching.{leads_on, shelf_touched}
use Rattle.desks.proofs.desk.Desk.ask.Given.{Over}
use Rattle.desks.proofs.desk.Desk.ask.Goals as goal

abbrev action : (g : Over) → goal.After-wake g → Action
action g c = Action.Ask c.args.handle.number (Target.Named c.args.name.now (Some c.args.at))
    c.args.call.now c.args.when c.ask-replied.result

-- the far end is of the twin
pub compare-requires-clause-far : goal.compare-requires-clause-far
compare-requires-clause-far g c = twin_is g.J.Naming.shelves c.args.shelves.now.twins
    (which_of c.args.at) c.held.inside.far.table c.of-twin.result.now c.args.shelves.now.twins_are
    c.of-twin.ensures
    (c.held.invariant.table ∙ ap (pick g.J.Naming.shelves) (sym c.requires.place))

pub note_touch-requires-clause-far : goal.note_touch-requires-clause-far
note_touch-requires-clause-far g c = ap (λ (v : EndState _). v.table) c.compare.ensures.far ∙
    twin_is g.J.Naming.shelves c.args.shelves.now.twins (which_of c.args.at)
    c.held.inside.far.table c.of-twin.result.now c.args.shelves.now.twins_are c.of-twin.ensures
    (c.held.invariant.table ∙ ap (pick g.J.Naming.shelves) (sym c.requires.place))

-- the shelf that is held is the one that the ends know
pub ask-replied-requires-clause-kept : goal.ask-replied-requires-clause-kept
ask-replied-requires-clause-kept g c =
    let i = c.self.inside in
    let is = c.self.invariant.0 in
    let w = which_of c.args.at in
    of_book w i.journal is.shelves is.known.book c.held.inside.shelf
    (here g.J.Naming i.journal i.nears is.shelves is.known w c.held.inside.shelf
    c.of_mut-near.result.now c.held.inside.far c.of_mut-near.ensures.value c.compare.ensures.same
    c.held.invariant.leads)

pub ask-replied-requires-clause-looked : goal.ask-replied-requires-clause-looked
ask-replied-requires-clause-looked g c = subst
    (λ f. IsLooked g.B.Shelf.Boosted.meaning c.args.when f c.held.inside.shelf c.args.handle.number
    c.args.at
    c.args.call.now c.args.looked) (sym c.self.invariant.0.format)
    (subst (λ s. IsLooked g.B.Shelf.Boosted.meaning c.args.when g.J.Naming.origin.format s
    c.args.handle.number
    c.args.at
    c.args.call.now c.args.looked) (sym c.held.view_is) c.requires.looked)

keeps : (g : Over) (c : goal.After-wake g) → IsJournalDesk g.J.Naming g.B.Boosted.meaning
    g.B.Parts.making g.B.Parts.collections g.B.Parts.whole g.B.Parts.fits c.ask-replied.new.self
    (put c.self.inside.nears (which_of c.args.at) c.note_touch.new.near) c.note.new.seat
    c.self.inside.sender c.self.inside.near
keeps g c =
    let i = c.self.inside in
    let is = c.self.invariant.0 in
    let w = which_of c.args.at in
    let l = c.ask-replied.new.self in
    let s = c.held.inside.shelf in
    let t = c.ask-replied.new.shelf in
    let e = c.note_touch.new.near in
    let there = here g.J.Naming i.journal i.nears is.shelves is.known w s
    c.of_mut-near.result.now c.held.inside.far c.of_mut-near.ensures.value c.compare.ensures.same
    c.held.invariant.leads in
    let served = book_told w i.journal is.shelves is.known.book s there l t
    c.ask-replied.ensures.step in
    let table : e.table ≡ (pick i.nears w).table =
    ap (λ (v : EndState _). v.table) c.note_touch.ensures.near ∙
    ap (λ (v : EndState _). v.table) c.compare.ensures.near ∙
    ap (λ (v : EndState _). v.table) c.of_mut-near.ensures.value in
    steps_over g.J.Naming g.met.B.Coded.told (Some c.args.me.now.number) i.journal i.nears i.seat
    i.sender i.near is l (put i.nears w e) (put is.shelves w t) c.note.new.seat (action g c)
    (owns_step g.J.Naming is c.args.me.now c.args.handle.number (action g c) c.note.ensures.seen
    c.requires.own refl refl)
    (known_on g.J.Naming i.journal i.nears is.shelves is.known w l t e table
    (leads_on c.compare.new.near e _ t c.note_touch.ensures.near refl)
    (book_kept w i.journal is.shelves is.known.book s there l t c.ask-replied.ensures.step)) (
      found_there g.J.Naming i.journal i.nears is.shelves is.known g.met.B.Parts.shelf_laws
          c.args.name.now c.args.at (c.is_at.ensures.place c.if-not-is_at.false),
      served.answer,
    )
    served.goes c.note.ensures.book

pub invariant_of-self : goal.invariant_of-self
invariant_of-self g c = kept_named c.self.inside.maker c.self.inside.seat c.note.new.seat
    c.self.invariant (keeps g c) c.args.me.now c.args.handle.number (action g c) c.note.ensures.seen
    c.requires.own refl c.note.ensures.book

pub invariant_of-held : goal.invariant_of-held
invariant_of-held g c = shelf_touched g.J.Naming.shelves g.Q.Quarter.which c.ask-replied.new.shelf
    c.compare.new.far c.note_touch.new.far _
    (ap (λ (v : EndState _). v.table) c.compare.ensures.far ∙ c.held.invariant.table)
    c.note_touch.ensures.far refl

pub returns-clause-some : goal.returns-clause-some
returns-clause-some g c = (
  Some c.args.at,
  steps_journal g.J.Naming c.ask-replied.new.self
      (put c.self.inside.nears (which_of c.args.at) c.note_touch.new.near) c.self.inside.seat
      c.note.new.seat c.self.inside.sender c.self.inside.near c.args.me.now c.note.new.me
      (action g c) (keeps g c) c.note.ensures.book c.note.ensures.client c.note.ensures.seen
      c.note.ensures.mine,
)

-- a deferred call is answered Done
pub returns-clause-deferred : goal.returns-clause-deferred
returns-clause-deferred g c = c.ask-replied.ensures.deferred
