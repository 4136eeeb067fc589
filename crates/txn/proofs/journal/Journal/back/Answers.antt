use Rattle.std.proofs.Common.{length, refl, sym, subst, ◌<◌}
use Rattle.catalog.specs.Fours.{which_of}
use Rattle.steps.specs.Machine.{HasNewestRead}
use Rattle.txn.specs.Shelved.{JournalState}
use Rattle.txn.proofs.JournalEnds.{unread_on}
use Rattle.txn.proofs.journal.Journal.back.Goals as goal

pub unread-requires-clause-newest : goal.unread-requires-clause-newest
unread-requires-clause-newest g c =
    subst (λ (j : JournalState _). HasNewestRead c.args.handle.number j.transactions.entries)
    (sym c.self.view_is) (c.newest_reads.ensures.0 c.if-newest_reads.true)

pub returns-then-newest_reads : goal.returns-then-newest_reads
returns-then-newest_reads g c =
    let room = subst (λ (j : JournalState _). length j.pending < 16384) (sym c.self.view_is)
    c.in_ok-check_backlog.ensures.ok in
    rw (← c.self.view_is) (unread_on g.met.B.Boosted.laws g.met.B.Parts.laws g.met.B.Coded.told
    g.met.B.Parts.shelf_laws _ _ c.args.handle.number c.args.shelf.now (which_of c.args.at)
    c.unread.ensures room refl)
