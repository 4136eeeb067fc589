use Rattle.std.proofs.Common.{◌∙◌, length, sym, ap, subst, arith, Ok}
use Rattle.calls.specs.Transactions.{own, laters_of}
use Rattle.catalog.specs.Fours.{rank, pick}
use Rattle.steps.specs.Shelves.{CanRun, on_quarter, Settles}
use Rattle.records.specs.Short.{AreShort}
use Rattle.steps.specs.Wholes.{TransactionsState, whole_state}
use Rattle.steps.proofs.BookLaws.{BookLaws, book_laws}
use Rattle.steps.proofs.InvariantRows.{commit_fits}
use Rattle.steps.proofs.Joining.{ready_join}
use Rattle.txn.specs.declared.actions.Action.{Action}
use Rattle.txn.specs.Shelved.{IsBook, IsServed, SettlesWhole, book_state}
use Rattle.txn.proofs.JournalEnds.{commit_book}
use Rattle.txn.proofs.book.Book.commit.Given.{Over}
use Rattle.txn.proofs.book.Book.commit.Goals as goal

-- the laws of the collections
laws : (g : Over) → BookLaws g.B.Boosted.meaning g.B.Parts.making
    (λ f s. AreShort f (g.B.Parts.collections s))
laws g = book_laws g.met.B.Boosted.laws g.met.B.Parts.laws g.met.B.Coded.told

pub settle_all-ran-requires : goal.settle_all-ran-requires
settle_all-ran-requires g c =
    let i = c.self.inside in
    let n = c.args.number in
    let running = c.in_ok-place.ensures.running in
    let noted = c.entries_of.ensures ∙
    ap (λ (a : TransactionsState). own n a.entries) c.in_ok-place.ensures.transactions in
    record {
      can = λ w. subst (λ es. CanRun g.B.Shelf.Boosted.meaning (on_quarter (rank w) (laters_of es))
          (pick i.shelves w).now) (sym noted)
          (ready_join g.met.B.Parts.shelf_laws (laws g) i.journal.names i.journal.transactions
          i.shelves
          i.shelves n c.self.invariant.joined running.live running.standing w);
    }

pub finish-requires : goal.finish-requires
finish-requires g c =
    let i = c.self.inside in
    let n = c.args.number in
    let noted = c.entries_of.ensures ∙
    ap (λ (a : TransactionsState). own n a.entries) c.in_ok-place.ensures.transactions in
    let ran = c.settle_all-ran.ensures.count ∙ ap (λ es. length (laters_of es)) noted in
    let same = ap (λ (a : TransactionsState). a.wear) c.in_ok-place.ensures.transactions in
    let fits = commit_fits g.B.Boosted.meaning g.B.Parts.making
    (λ f s. AreShort f (g.B.Parts.collections s)) (laws g)
    (whole_state g.B.Parts.whole i.journal.names i.journal.transactions i.shelves)
    c.self.invariant.kept.upheld n in
    omega arith

-- the transaction is committed
done : (g : Over) (c : goal.After-finish g) → let i = c.self.inside in
    let j = i.journal in
    let k = c.finish.new.self in
    let shelves = c.settle_all-ran.new.shelves in
    let b = book_state g.B.Parts.whole j i.shelves in
    let d = book_state g.B.Parts.whole k shelves in
    IsBook g.B.Boosted.meaning g.B.Parts.making g.B.Parts.collections g.B.Parts.whole
    g.B.Parts.fits k shelves × IsServed g.B.Boosted.meaning g.B.Parts.making g.B.Parts.collections
    (Action.Commit c.args.number) (Ok c.in_ok-place.place)
    (SettlesWhole g.B.Boosted.meaning g.B.Parts.making c.args.number b d) b d
done g c =
    let i = c.self.inside in
    let n = c.args.number in
    let told = c.in_ok-place.ensures in
    let noted = c.entries_of.ensures ∙
    ap (λ (a : TransactionsState). own n a.entries) told.transactions in
    commit_book g.met.B.Boosted.laws g.met.B.Parts.laws g.met.B.Coded.told
    g.met.B.Parts.shelf_laws i.journal
    c.prepare_commit.new.self c.finish.new.self n c.settle_all-ran.result i.shelves
    c.settle_all-ran.new.shelves c.self.invariant told.transactions told.names c.finish.ensures
    c.in_ok-place.place told.running told.written told.place told.noted
    (c.settle_all-ran.ensures.count ∙ ap (λ es. length (laters_of es)) noted)
    (λ w. subst (λ es. Settles g.B.Shelf.Boosted.meaning (pick i.shelves w) n
    (on_quarter (rank w) (laters_of es)) (pick c.settle_all-ran.new.shelves w)) noted
    (c.settle_all-ran.ensures.settled w))

pub invariant_of-self-2 : goal.invariant_of-self-2
invariant_of-self-2 g c = (done g c).0

pub returns-clause-answer : goal.returns-clause-answer
returns-clause-answer g c = rw (← c.self.view_is) (done g c).1.answer

pub returns-clause-settled : goal.returns-clause-settled
returns-clause-settled g c = rw (← c.self.view_is) (done g c).1.settles

pub returns-clause-goes : goal.returns-clause-goes
returns-clause-goes g c = rw (← c.self.view_is) (done g c).1.goes

pub returns-clause-notes : goal.returns-clause-notes
returns-clause-notes g c = rw (← c.self.view_is) (done g c).1.notes
