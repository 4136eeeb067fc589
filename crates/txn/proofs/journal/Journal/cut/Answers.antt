use Rattle.std.proofs.Common.{refl}
use Rattle.txn.specs.Views.{journal_of}
use Rattle.txn.proofs.JournalSteps.{cut_beside}
use Rattle.txn.proofs.journal.Journal.cut.Goals as goal

pub returns : goal.returns
returns g c =
    let i = c.self.inside in
    rw (← c.self.view_is) (cut_beside g.met.B.Boosted.laws g.met.B.Parts.laws g.met.B.Coded.told
    g.met.B.Parts.shelf_laws (λ bs. g.O.Outbox.sends c.args.out.now bs c.cut.new.out) _ _
    (journal_of i.names i.transactions i.pending i.places i.next i.gathering)
    (journal_of i.names i.transactions c.cut.new.self i.places i.next i.gathering) c.cut.ensures
    refl)
