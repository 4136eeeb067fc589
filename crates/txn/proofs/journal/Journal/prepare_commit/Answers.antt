use Rattle.std.proofs.Common.{subst, sym, ◌∙◌, ap}
use Rattle.std.specs.List.{AllByRecursion}
use Rattle.calls.specs.Formats.{widest}
use Rattle.calls.specs.Rules.{IsShort}
use Rattle.calls.specs.Transactions.{own, laters_of}
use Rattle.records.specs.Waits.{HasRoomFor}
use Rattle.images.proofs.Running.{each_short}
use Rattle.txn.specs.Shelved.{IsJournal}
use Rattle.txn.proofs.BookLemmas.{mark_length}
use Rattle.txn.proofs.JournalEnds.{laters_short, ready_short}
use Rattle.txn.proofs.journal.Journal.prepare_commit.Goals as goal

pub push-requires-clause-room : goal.push-requires-clause-room
push-requires-clause-room g c =
    subst (HasRoomFor c.reserve.new.self) (mark_length c.args.handle.number)
    c.in_ok-reserve.ensures.room

pub note_all-requires : goal.note_all-requires
note_all-requires g c =
    let i = c.self.inside in
    let noted = c.entries_of-entries.ensures ∙
    ap (own c.args.handle.number) c.live.ensures.entries in
    let book = subst (IsJournal g.B.Boosted.meaning g.B.Parts.making g.B.Parts.collections
    g.B.Parts.whole g.B.Parts.fits) (sym c.self.view_is) c.requires.kept in
    record {
      short = subst (AllByRecursion (λ e. IsShort widest e.call)) (sym c.in_ok-effects.ensures.ok)
          (ready_short i.gathering _ (each_short c.next_lsn-lsn.result _
          (subst (λ es. AllByRecursion (λ e. IsShort widest e.call) (laters_of es)) (sym noted)
          (laters_short g.met.B.Boosted.laws g.met.B.Parts.laws g.met.B.Coded.told
          g.met.B.Parts.shelf_laws _ book c.args.handle.number))));
    }
