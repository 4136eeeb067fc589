use Rattle.std.proofs.Common.{length, refl, sym, subst, ◌<◌}
use Rattle.txn.specs.Shelved.{JournalState}
use Rattle.txn.proofs.JournalEnds.{fall_beside}
use Rattle.txn.proofs.journal.Journal.back_none.Goals as goal

pub returns : goal.returns
returns g c =
    let room = subst (λ (j : JournalState _). length j.pending < 16384) (sym c.self.view_is)
    c.in_ok-check_backlog.ensures.ok in
    rw (← c.self.view_is) (fall_beside g.met.B.Boosted.laws g.met.B.Parts.laws g.met.B.Coded.told
    g.met.B.Parts.shelf_laws _ _ c.args.handle.number c.fall.ensures room refl)
