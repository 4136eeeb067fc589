use Rattle.std.proofs.Common.{◌∙◌, map, length, refl, sym, ap, subst, arith}
use Rattle.std.proofs.lemmas.Result.{err_from_is_err_and}
use Rattle.calls.specs.Transactions.{own, laters_of}
use Rattle.undo_log.specs.Entries.{stamped_entry}
use Rattle.catalog.specs.Fours.{Which, First, Second, Third, Fourth, rank, pick}
use Rattle.steps.specs.Shelves.{CanRun, on_quarter, Settles}
use Rattle.records.specs.Short.{AreShort}
use Rattle.steps.specs.Wholes.{TransactionsState, whole_state}
use Rattle.steps.proofs.BookLaws.{BookLaws, book_laws}
use Rattle.steps.proofs.InvariantRows.{commit_fits}
use Rattle.steps.proofs.Joining.{ready_join}
use Rattle.txn.specs.Shelved.{IsIdle, IsUntouched}
use Rattle.txn.proofs.JournalEnds.{commit_book}
use Rattle.txn.proofs.Untouched.{idle_there}
use Rattle.desks.proofs.Settling.{commit_refused}
use Rattle.desks.proofs.Unsettled.{commit_refused_known}
use Rattle.desks.proofs.commits.commit_over.Given.{Over}
use Rattle.desks.proofs.commits.commit_over.Goals as goal

-- the laws of the collections
laws : (g : Over) → BookLaws g.B.Boosted.meaning g.B.Parts.making
    (λ f s. AreShort f (g.B.Parts.collections s))
laws g = book_laws g.met.B.Boosted.laws g.met.B.Parts.laws g.met.B.Coded.told

pub prepare_commit-requires : goal.prepare_commit-requires
prepare_commit-requires g c =
    record { kept = (c.requires.known.0, c.requires.known.1.book) }

pub settle_all-ran-requires-clause-tables : goal.settle_all-ran-requires-clause-tables
settle_all-ran-requires-clause-tables g c = c.requires.known.1.tables

pub settle_all-ran-requires-clause-known : goal.settle_all-ran-requires-clause-known
settle_all-ran-requires-clause-known g c =
    let j = c.args.journal.now in
    let n = c.args.handle.number in
    let f = c.requires.known.0 in
    let known = c.requires.known.1 in
    let running = c.in_ok-place.ensures.running in
    let noted = c.entries_of.ensures ∙
    ap (λ (a : TransactionsState). own n a.entries) c.in_ok-place.ensures.transactions in
    let idle : (w : Which) → IsUntouched w n j.transactions.entries → IsIdle (pick f w) n
    (on_quarter (rank w) (laters_of (map stamped_entry c.entries_of.result.now))) =
    λ w none. subst (λ es. IsIdle (pick f w) n (on_quarter (rank w) (laters_of es))) (sym noted)
    (idle_there w j f n known.book running none) in (
      f,
      known.leads,
      λ w. subst (λ es. CanRun g.B.Shelf.Boosted.meaning (on_quarter (rank w) (laters_of es))
          (pick f w).now) (sym noted)
          (ready_join g.met.B.Parts.shelf_laws (laws g) j.names j.transactions f f n
          known.book.joined
          running.live running.standing w),
      λ none. idle First (c.requires.first none),
      λ none. idle Second (c.requires.second none),
      λ none. idle Third (c.requires.third none),
      λ none. idle Fourth (c.requires.fourth none),
    )

pub finish-requires : goal.finish-requires
finish-requires g c =
    let j = c.args.journal.now in
    let n = c.args.handle.number in
    let noted = c.entries_of.ensures ∙
    ap (λ (a : TransactionsState). own n a.entries) c.in_ok-place.ensures.transactions in
    let ran = c.settle_all-ran.ensures.count ∙ ap (λ es. length (laters_of es)) noted in
    let same = ap (λ (a : TransactionsState). a.wear) c.in_ok-place.ensures.transactions in
    let fits = commit_fits g.B.Boosted.meaning g.B.Parts.making
    (λ f s. AreShort f (g.B.Parts.collections s)) (laws g)
    (whole_state g.B.Parts.whole j.names j.transactions c.requires.known.0)
    c.requires.known.1.book.kept.upheld n in
    omega arith

pub returns : goal.returns
returns g c f known =
    let n = c.args.handle.number in
    let told = c.in_ok-place.ensures in
    let noted = c.entries_of.ensures ∙
    ap (λ (a : TransactionsState). own n a.entries) told.transactions in
    let settled = c.settle_all-ran.ensures.settled f known.leads in
    let done = commit_book g.met.B.Boosted.laws g.met.B.Parts.laws g.met.B.Coded.told
    g.met.B.Parts.shelf_laws c.args.journal.now c.prepare_commit.new.self c.finish.new.self
    n c.settle_all-ran.result f settled.0 known.book told.transactions told.names c.finish.ensures
    c.in_ok-place.place told.running told.written told.place told.noted
    (c.settle_all-ran.ensures.count ∙ ap (λ es. length (laters_of es)) noted)
    (λ w. subst (λ es. Settles g.B.Shelf.Boosted.meaning (pick f w) n
    (on_quarter (rank w) (laters_of es)) (pick settled.0 w)) noted (settled.2 w)) in (
      settled.0,
      record { tables = c.settle_all-ran.ensures.tables; leads = settled.1; book = done.0 },
      done.1,
    )

pub returns-in_err-place : goal.returns-in_err-place
returns-in_err-place g c =
    let told = c.in_err-place.ensures in
    let p = err_from_is_err_and c.from_residual.result c.from_residual.ensures.1 in
    commit_refused_known g.J.Naming g.B.Boosted.meaning g.B.Parts.making g.B.Parts.collections
    g.B.Parts.whole g.B.Parts.fits c.args.handle.number c.from_residual.result p.0
    c.in_err-place.field-0.0 c.args.journal.now c.prepare_commit.new.self c.args.nears.now
    p.1 p.2 told.same
    (λ f. (
      refl,
      commit_refused g.B.Parts.whole c.args.journal.now f c.args.handle.number _
          told.err,
    ))
