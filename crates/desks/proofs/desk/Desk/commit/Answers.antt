use Rattle.std.proofs.Common.{Some, refl}
use Rattle.catalog.specs.Fours.{First, Second, Third, Fourth}
use Rattle.txn.specs.declared.actions.Action.{Action}
use Rattle.desks.specs.Touches.{IsJournalDesk}
use Rattle.desks.proofs.Owning.{kept_named}
use Rattle.desks.proofs.ShelfSteps.{steps_over, steps_journal, owns_step}
use Rattle.desks.proofs.desk.Desk.commit.Given.{Over}
use Rattle.desks.proofs.desk.Desk.commit.Goals as goal

pub commit_over-committed-requires-clause-known :
    goal.commit_over-committed-requires-clause-known
commit_over-committed-requires-clause-known g c =
    let is = c.self.invariant.0 in
    (is.shelves, is.known)

pub commit_over-committed-requires-clause-first :
    goal.commit_over-committed-requires-clause-first
commit_over-committed-requires-clause-first g c none =
    (c.shelves_of-needed.ensures First).0 (c.covers.ensures.first c.if-not-covers.false none)

pub commit_over-committed-requires-clause-second :
    goal.commit_over-committed-requires-clause-second
commit_over-committed-requires-clause-second g c none =
    (c.shelves_of-needed.ensures Second).0 (c.covers.ensures.second c.if-not-covers.false none)

pub commit_over-committed-requires-clause-third :
    goal.commit_over-committed-requires-clause-third
commit_over-committed-requires-clause-third g c none =
    (c.shelves_of-needed.ensures Third).0 (c.covers.ensures.third c.if-not-covers.false none)

pub commit_over-committed-requires-clause-fourth :
    goal.commit_over-committed-requires-clause-fourth
commit_over-committed-requires-clause-fourth g c none =
    (c.shelves_of-needed.ensures Fourth).0 (c.covers.ensures.fourth c.if-not-covers.false none)

abbrev action : (g : Over) → goal.After-wake g → Action
action g c = Action.Commit c.args.handle.number c.commit_over-committed.result

keeps : (g : Over) (c : goal.After-wake g) → IsJournalDesk g.J.Naming g.B.Boosted.meaning
    g.B.Parts.making g.B.Parts.collections g.B.Parts.whole g.B.Parts.fits
    c.commit_over-committed.new.journal c.commit_over-committed.new.nears c.note.new.seat
    c.self.inside.sender c.self.inside.near
keeps g c =
    let i = c.self.inside in
    let is = c.self.invariant.0 in
    let done = c.commit_over-committed.ensures is.shelves is.known in
    steps_over g.J.Naming g.met.B.Coded.told (Some c.args.me.now.number) i.journal i.nears i.seat
    i.sender i.near is c.commit_over-committed.new.journal c.commit_over-committed.new.nears
    done.0 c.note.new.seat (action g c)
    (owns_step g.J.Naming is c.args.me.now c.args.handle.number (action g c) c.note.ensures.seen
    c.requires.own refl refl) done.1 done.2.answer done.2.goes c.note.ensures.book

pub invariant_of-self : goal.invariant_of-self
invariant_of-self g c = kept_named c.self.inside.maker c.self.inside.seat c.note.new.seat
    c.self.invariant (keeps g c) c.args.me.now c.args.handle.number (action g c) c.note.ensures.seen
    c.requires.own refl c.note.ensures.book

pub returns-clause-some : goal.returns-clause-some
returns-clause-some g c = steps_journal g.J.Naming c.commit_over-committed.new.journal
    c.commit_over-committed.new.nears c.self.inside.seat c.note.new.seat c.self.inside.sender
    c.self.inside.near c.args.me.now c.note.new.me (action g c) (keeps g c) c.note.ensures.book
    c.note.ensures.client c.note.ensures.seen c.note.ensures.mine
