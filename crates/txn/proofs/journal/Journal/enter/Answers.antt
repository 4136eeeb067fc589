use Rattle.std.proofs.Common.{refl, sym, subst, arith}
use Rattle.records.specs.Short.{AreShort}
use Rattle.records.specs.Waits.{HasRoomFor}
use Rattle.steps.proofs.BookLaws.{book_laws}
use Rattle.steps.proofs.InvariantRows.{enter_room}
use Rattle.steps.specs.Wholes.{whole_state}
use Rattle.txn.specs.Rows.{CanEnter}
use Rattle.txn.specs.Shelved.{standing_of, IsJournal}
use Rattle.txn.proofs.BookLemmas.{mark_length}
use Rattle.txn.proofs.JournalLemmas.{written}
use Rattle.txn.proofs.JournalSteps.{enter_beside}
use Rattle.txn.proofs.journal.Journal.enter.Goals as goal

pub push-requires-clause-room : goal.push-requires-clause-room
push-requires-clause-room g c =
    subst (HasRoomFor c.reserve.new.self) (mark_length c.args.number) c.in_ok-reserve.ensures.room

pub begin-requires-clause-room : goal.begin-requires-clause-room
begin-requires-clause-room g c =
    let i = c.self.inside in
    let can = subst (λ j. CanEnter (standing_of j) c.args.number) (sym c.self.view_is)
    c.in_ok-check_enter.ensures.ok in
    let book = subst (IsJournal g.B.Boosted.meaning g.B.Parts.making g.B.Parts.collections
    g.B.Parts.whole g.B.Parts.fits) (sym c.self.view_is) c.requires.kept in
    let room = enter_room g.B.Boosted.meaning g.B.Parts.making
    (λ f s. AreShort f (g.B.Parts.collections s))
    (book_laws g.met.B.Boosted.laws g.met.B.Parts.laws g.met.B.Coded.told)
    (whole_state g.B.Parts.whole i.names i.transactions book.0) book.1.kept.upheld can.unworn in
    omega arith

pub returns : goal.returns
returns g c =
    let i = c.self.inside in
    let can = subst (λ j. CanEnter (standing_of j) c.args.number) (sym c.self.view_is)
    c.in_ok-check_enter.ensures.ok in
    let reserved = c.in_ok-reserve.ensures in
    rw (← c.self.view_is) (enter_beside g.met.B.Boosted.laws g.met.B.Parts.laws g.met.B.Coded.told
    g.met.B.Parts.shelf_laws _ _ c.args.number c.in_ok-handle.ensures.ok can.unworn
    (written i.pending c.reserve.new.self c.push.new.self can.room reserved.records reserved.freezes
    reserved.handed c.push.ensures.records c.push.ensures.freezes c.push.ensures.handed
    (omega arith)
    c.max-self-inside.ensures) refl refl)
