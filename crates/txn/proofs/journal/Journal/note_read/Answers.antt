use Rattle.std.proofs.Common.{refl, sym, subst}
use Rattle.std.proofs.lemmas.Result.{on_ok_weaker}
use Rattle.steps.specs.Machine.{ReadRow}
use Rattle.steps.specs.Machines.{HasRoomFor}
use Rattle.steps.specs.Wholes.{state_on}
use Rattle.txn.specs.Rows.{IsOpen}
use Rattle.txn.specs.Shelved.{JournalState, standing_of}
use Rattle.txn.proofs.JournalSteps.{room_on, read_on}
use Rattle.txn.proofs.journal.Journal.note_read.Goals as goal

pub read-requires-clause-room : goal.read-requires-clause-room
read-requires-clause-room g c =
    subst (λ (j : JournalState _). HasRoomFor (state_on j.transactions c.args.shelf.now) 1)
    (sym c.self.view_is) (room_on g.met.B.Boosted.laws g.met.B.Parts.laws g.met.B.Coded.told
    g.met.B.Parts.shelf_laws c.args.self.now c.args.shelf.now c.args.handle.number c.args.at
    c.args.call.now c.requires.open c.requires.kept.0 c.requires.kept.1)

pub returns-clause-ok : goal.returns-clause-ok
returns-clause-ok g c =
    on_ok_weaker c.read.result (λ done. rw (← c.self.view_is) (read_on g.met.B.Boosted.laws
    g.met.B.Parts.laws g.met.B.Coded.told g.met.B.Parts.shelf_laws _ c.args.shelf.now
    c.args.handle.number
    c.args.at c.args.call.now c.args.reply.now _ c.read.new.shelf
    (subst (λ j. IsOpen (Unit {0}) (standing_of j) c.args.handle.number) (sym c.self.view_is)
    c.requires.open) c.requires.only_reads
    (subst (λ e. ReadRow g.B.Shelf.Boosted.meaning (state_on c.self.inside.transactions
    c.args.shelf.now) c.args.handle.number e (state_on c.read.new.self c.read.new.shelf))
    c.in_ok-asked.ensures.ok done) refl)) c.read.ensures.ok
