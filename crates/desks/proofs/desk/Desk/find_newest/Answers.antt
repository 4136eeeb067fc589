use Rattle.std.proofs.Common.{IfNone, IfSome, Some, subst, refl}
use Rattle.undo_log.specs.Entries.{HasNoCall}
use Rattle.txn.specs.declared.actions.Action.{Action}
use Rattle.txn.specs.Shelved.{HasNewestAt, book_state}
use Rattle.desks.specs.Touches.{IsJournalDesk}
use Rattle.desks.proofs.Owning.{kept_named}
use Rattle.desks.proofs.ShelfSteps.{steps_beside, steps_journal, owns_step}
use Rattle.desks.proofs.Undoing.{none_undone}
use Rattle.desks.proofs.desk.Desk.find_newest.Given.{Over}
use Rattle.desks.proofs.desk.Desk.find_newest.Goals as goal

abbrev action : (g : Over) → goal.After-wake g → Action
action g c = Action.Back c.args.handle.number c.back_none-undone.result

keeps : (g : Over) (c : goal.After-wake g) →
    IsJournalDesk g.J.Naming g.B.Boosted.meaning g.B.Parts.making g.B.Parts.collections
    g.B.Parts.whole g.B.Parts.fits c.back_none-undone.new.self c.self.inside.nears c.note.new.seat
    c.self.inside.sender c.self.inside.near
keeps g c =
    let i = c.self.inside in
    let is = c.self.invariant.0 in
    let leads = c.back_none-undone.ensures in
    let served = leads.told is.shelves is.known.book in
    steps_beside g.J.Naming g.met.B.Coded.told (Some c.args.me.now.number) i.journal i.nears i.seat
    i.sender i.near is c.back_none-undone.new.self c.note.new.seat (action g c)
    (owns_step g.J.Naming is c.args.me.now c.args.handle.number (action g c) c.note.ensures.seen
    c.requires.own refl refl)
    (leads.kept is.shelves is.known.book) served.answer served.goes c.note.ensures.book

pub back_none-undone-requires-clause-kept : goal.back_none-undone-requires-clause-kept
back_none-undone-requires-clause-kept g c =
    (c.self.invariant.0.shelves, c.self.invariant.0.known.book)

pub back_none-undone-requires-clause-none : goal.back_none-undone-requires-clause-none
back_none-undone-requires-clause-none g c = subst
    (λ r. IfNone r (HasNoCall c.args.handle.number c.self.inside.journal.transactions.entries))
    c.in-None.is
    c.newest.ensures.none

pub invariant_of-self : goal.invariant_of-self
invariant_of-self g c = kept_named c.self.inside.maker c.self.inside.seat c.note.new.seat
    c.self.invariant (keeps g c) c.args.me.now c.args.handle.number (action g c) c.note.ensures.seen
    c.requires.own refl c.note.ensures.book

pub returns-in-None-clause-err : goal.returns-in-None-clause-err
returns-in-None-clause-err g c =
    steps_journal g.J.Naming c.back_none-undone.new.self c.self.inside.nears c.self.inside.seat
    c.note.new.seat c.self.inside.sender c.self.inside.near c.args.me.now c.note.new.me
    (action g c) (keeps g c) c.note.ensures.book c.note.ensures.client c.note.ensures.seen
    c.note.ensures.mine

pub returns-in-Some-clause-newest : goal.returns-in-Some-clause-newest
returns-in-Some-clause-newest g c = rw (← c.self.view_is) (subst
    (λ r. IfSome r (HasNewestAt c.args.handle.number c.self.inside.journal.transactions.entries))
    c.in-Some.is
    c.newest.ensures.some)

pub returns-in-None-clause-none : goal.returns-in-None-clause-none
returns-in-None-clause-none g c =
    let i = c.self.inside in
    let is = c.self.invariant.0 in
    none_undone g.B.Boosted.meaning g.B.Parts.making
    (book_state g.B.Parts.whole i.journal is.shelves)
    (book_state g.B.Parts.whole c.back_none-undone.new.self is.shelves) c.args.handle.number
    c.back_none-undone.result (c.back_none-undone.ensures.told is.shelves is.known.book).answer
    (subst (λ r. IfNone r (HasNoCall c.args.handle.number i.journal.transactions.entries))
    c.in-None.is c.newest.ensures.none)
