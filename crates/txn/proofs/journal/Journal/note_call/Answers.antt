use Rattle.std.proofs.Common.{◌+◌, ◌∙◌, [], ◌∷◌, refl, sym, ap, subst, arith}
use Rattle.calls.specs.Transactions.{Event}
use Rattle.undo_log.specs.Entries.{event_of}
use Rattle.steps.specs.Machine.{CallRow}
use Rattle.steps.specs.Machines.{HasRoomFor}
use Rattle.steps.specs.Wholes.{state_on}
use Rattle.images.specs.Gatherings.{noted, effect_at}
use Rattle.images.proofs.Running.{note_kept}
use Rattle.txn.specs.Rows.{IsOpen}
use Rattle.txn.specs.Shelved.{JournalState, standing_of, journal_lsn}
use Rattle.txn.specs.Views.{journal_of}
use Rattle.txn.proofs.JournalLemmas.{written}
use Rattle.txn.proofs.JournalSteps.{room_on, reach_on, call_on}
use Rattle.txn.proofs.journal.Journal.note_call.Goals as goal

pub take-requires-clause-room : goal.take-requires-clause-room
take-requires-clause-room g c =
    subst (λ (j : JournalState _). HasRoomFor (state_on j.transactions c.args.shelf.now) 1)
    (sym c.self.view_is) (room_on g.met.B.Boosted.laws g.met.B.Parts.laws g.met.B.Coded.told
    g.met.B.Parts.shelf_laws c.args.self.now c.args.shelf.now c.args.handle.number c.args.at
    c.args.call.now c.requires.open c.requires.kept.0 c.requires.kept.1)

pub take-requires-clause-reach : goal.take-requires-clause-reach
take-requires-clause-reach g c = reach_on g.met.B.Boosted.laws g.met.B.Parts.laws g.met.B.Coded.told
    g.met.B.Parts.shelf_laws c.args.self.now c.args.shelf.now c.args.handle.number c.args.at
    c.args.call.now c.requires.kept.0 c.requires.kept.1

pub returns-clause-ok : goal.returns-clause-ok
returns-clause-ok g c =
    let i = c.self.inside in
    let e : Event = record { at = c.args.at; call = c.args.call.now; reply = c.args.reply.now } in
    let opens = subst (λ j. IsOpen (Unit {0}) (standing_of j) c.args.handle.number)
    (sym c.self.view_is)
    c.requires.open in
    let j : JournalState _ = journal_of i.names i.transactions i.pending i.places i.next
    i.gathering in
    let reserved = c.in_ok-reserve.ensures in
    let next = c.next_lsn-lsn.ensures ∙ ap (λ b. journal_lsn b + 1)
    (sym c.self.view_is) in
    let notes = c.note.ensures ∙ ap (noted i.gathering) c.in_ok-effect.ensures.ok ∙
    note_kept i.gathering _ ∙
    ap (λ q. noted i.gathering (effect_at q (event_of c.in_ok-asked.asked) ∷ [])) next ∙
    ap (λ v. noted i.gathering (effect_at (journal_lsn j + 1) v ∷ []))
    c.in_ok-asked.ensures.ok in
    rw (← c.self.view_is) (call_on g.met.B.Boosted.laws g.met.B.Parts.laws g.met.B.Coded.told
    g.met.B.Parts.shelf_laws j c.args.shelf.now c.args.handle.number c.args.at c.args.call.now
    c.args.reply.now _ c.take.new.shelf opens c.requires.written
    (c.fits_call.ensures.fits.0 c.if-prove.false) (c.fits_reply.ensures.fits.0 c.if-prove-2.false)
    c.ranges.at.fits
    (subst (λ v. CallRow g.B.Shelf.Boosted.meaning (state_on i.transactions c.args.shelf.now)
    c.args.handle.number v (state_on c.take.new.self c.take.new.shelf)) c.in_ok-asked.ensures.ok
    c.in_ok-take.ensures.ok)
    (written i.pending c.reserve.new.self c.push_call.new.self opens.room reserved.records
    reserved.freezes reserved.handed c.push_call.ensures.records c.push_call.ensures.freezes
    c.push_call.ensures.handed (omega arith) refl) refl notes)
