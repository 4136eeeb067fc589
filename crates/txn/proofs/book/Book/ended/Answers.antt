use Rattle.std.proofs.Common.{Ok, refl}
use Rattle.txn.specs.declared.actions.Action.{Action}
use Rattle.txn.specs.Shelved.{IsBook, Serves, book_state}
use Rattle.txn.proofs.JournalEnds.{ended_book}
use Rattle.txn.proofs.book.Book.ended.Given.{Over}
use Rattle.txn.proofs.book.Book.ended.Goals as goal

-- the transaction is ended
done : (g : Over) (c : goal.After-finish g) → let i = c.self.inside in
    let j = i.journal in
    let k = c.finish.new.self in
    let shelves = c.give_up_all.new.shelves in
    IsBook g.B.Boosted.meaning g.B.Parts.making g.B.Parts.collections g.B.Parts.whole
    g.B.Parts.fits k shelves × Serves g.B.Boosted.meaning g.B.Parts.making g.B.Parts.collections
    (Action.Ended c.args.number) (Ok tt) (book_state g.B.Parts.whole j i.shelves)
    (book_state g.B.Parts.whole k shelves)
done g c =
    let i = c.self.inside in
    let told = c.in_ok-prepare_end.ensures in
    ended_book g.met.B.Boosted.laws g.met.B.Parts.laws g.met.B.Coded.told
    g.met.B.Parts.shelf_laws i.journal
    c.prepare_end.new.self c.finish.new.self c.args.number 0 i.shelves c.give_up_all.new.shelves
    c.self.invariant told.transactions told.names c.finish.ensures told.live told.undone
    told.written
    told.noted refl c.give_up_all.ensures

pub invariant_of-self-2 : goal.invariant_of-self-2
invariant_of-self-2 g c = (done g c).0

pub returns-clause-answer : goal.returns-clause-answer
returns-clause-answer g c = rw (← c.self.view_is) (done g c).1.answer

pub returns-clause-settled : goal.returns-clause-settled
returns-clause-settled g c = rw (← c.self.view_is) (done g c).1.settles

pub returns-clause-goes : goal.returns-clause-goes
returns-clause-goes g c = rw (← c.self.view_is) (done g c).1.goes

pub returns-clause-notes : goal.returns-clause-notes
returns-clause-notes g c = rw (← c.self.view_is) (done g c).1.notes
