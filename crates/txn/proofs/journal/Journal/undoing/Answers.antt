use Rattle.std.proofs.Common.{length, sym, ap, subst, arith}
use Rattle.std.specs.List.{AllByRecursion}
use Rattle.std.specs.FinMap as maps
use Rattle.undo_log.specs.Logs.{Lives}
use Rattle.steps.specs.Wholes.{whole_state}
use Rattle.steps.proofs.BookLaws.{book_laws}
use Rattle.steps.proofs.Steps.{alive}
use Rattle.txn.specs.Shelved.{IsJournal}
use Rattle.txn.proofs.UndoCounts.{calls_few}
use Rattle.txn.proofs.journal.Journal.undoing.Goals as goal

pub count_journalled-requires-clause-owned : goal.count_journalled-requires-clause-owned
count_journalled-requires-clause-owned g c =
    let i = c.self.inside in
    let book = subst (IsJournal g.B.Boosted.meaning g.B.Parts.making g.B.Parts.collections
    g.B.Parts.whole g.B.Parts.fits) (sym c.self.view_is) c.requires in
    subst (λ l. AllByRecursion (λ e. Lives l e.0) c.live-live.result.now.entries)
    (sym c.live-live.ensures.live)
    (subst (AllByRecursion (λ e. Lives i.transactions.live e.0)) (sym c.live-live.ensures.entries)
    (alive g.B.Boosted.meaning g.B.Parts.making (book_laws g.met.B.Boosted.laws g.met.B.Parts.laws
    g.met.B.Coded.told).rules (whole_state g.B.Parts.whole i.names i.transactions book.0)
    book.1.kept.upheld.holds))

pub overflow_add-result : goal.overflow_add-result
overflow_add-result g c =
    let book = subst (IsJournal g.B.Boosted.meaning g.B.Parts.making g.B.Parts.collections
    g.B.Parts.whole g.B.Parts.fits) (sym c.self.view_is) c.requires in
    let up = book.1.kept.upheld in
    omega (
      arith,
      up.unworn,
      up.few_live,
      c.count_journalled.ensures,
      c.count_live.ensures,
      ap length c.live-live.ensures.entries,
      ap (λ l. maps.len l) c.live-live.ensures.live,
      calls_few c.live-live.result.now.entries,
    )
