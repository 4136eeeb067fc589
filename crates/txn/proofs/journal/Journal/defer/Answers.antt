use Rattle.std.proofs.Common.{◌≡◌, ◌++◌, ◌∷◌, [], refl, sym, subst, arith}
use Rattle.records.specs.Waits.{waiting}
use Rattle.steps.specs.Machines.{HasRoomFor}
use Rattle.steps.specs.Machine.{LaterRow}
use Rattle.steps.specs.Wholes.{state_on}
use Rattle.txn.specs.Rows.{IsOpen}
use Rattle.txn.specs.Shelved.{JournalState, standing_of}
use Rattle.txn.specs.Views.{journal_of}
use Rattle.txn.proofs.JournalLemmas.{written}
use Rattle.txn.proofs.JournalSteps.{room_on, reach_on, later_on}
use Rattle.txn.proofs.journal.Journal.defer.Goals as goal

pub take-requires-clause-room : goal.take-requires-clause-room
take-requires-clause-room g c =
    subst (λ (j : JournalState _). HasRoomFor (state_on j.transactions c.args.shelf.now) 1)
    (sym c.self.view_is) (room_on g.met.B.Boosted.laws g.met.B.Parts.laws g.met.B.Coded.told
    g.met.B.Parts.shelf_laws c.args.self.now c.args.shelf.now c.args.handle.number c.args.at
    c.args.call.now c.requires.open c.requires.kept.0 c.requires.kept.1)

pub take-requires-clause-reach : goal.take-requires-clause-reach
take-requires-clause-reach g c = reach_on g.met.B.Boosted.laws g.met.B.Parts.laws g.met.B.Coded.told
    g.met.B.Parts.shelf_laws c.args.self.now c.args.shelf.now c.args.handle.number c.args.at
    c.args.call.now c.requires.kept.0 c.requires.kept.1

pub returns-clause-ok : goal.returns-clause-ok
returns-clause-ok g c =
    let i = c.self.inside in
    let opens = subst (λ j. IsOpen (Unit {0}) (standing_of j) c.args.handle.number)
    (sym c.self.view_is)
    c.requires.open in
    let j : JournalState _ = journal_of i.names i.transactions i.pending i.places i.next
    i.gathering in
    let reserved = c.in_ok-reserve.ensures in
    let put = subst (λ r. waiting c.push.new.self ≡ waiting c.reserve.new.self ++ r ∷ [])
    c.in_ok-entry.ensures.ok c.push.ensures.records in
    rw (← c.self.view_is) (later_on g.met.B.Boosted.laws g.met.B.Parts.laws g.met.B.Coded.told
    g.met.B.Parts.shelf_laws j c.args.shelf.now c.args.handle.number c.args.at c.args.call.now _
    c.take.new.shelf opens c.ranges.at.fits
    (subst (λ v. LaterRow g.B.Shelf.Boosted.meaning (state_on i.transactions c.args.shelf.now)
    c.args.handle.number c.args.at v (state_on c.take.new.self c.take.new.shelf))
    c.in_ok-copy.ensures
    c.in_ok-take.ensures.ok)
    (written i.pending c.reserve.new.self c.push.new.self opens.room reserved.records
    reserved.freezes reserved.handed put c.push.ensures.freezes c.push.ensures.handed (omega arith)
    refl) refl refl)
