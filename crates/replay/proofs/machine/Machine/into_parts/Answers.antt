use Rattle.std.proofs.Common.{sym, subst}
use Rattle.calls.specs.Transactions.{Serial, committed}
use Rattle.records.specs.Acts.{acts_of}
use Rattle.records.specs.Short.{AreShort}
use Rattle.steps.specs.Machine.{State}
use Rattle.steps.proofs.BookLaws.{BookLaws, book_laws}
use Rattle.steps.proofs.RecordRuns.{records_serial}
use Rattle.replay.proofs.machine.Machine.into_parts.Given.{Over}
use Rattle.replay.proofs.machine.Machine.into_parts.Goals as goal

-- the laws of the collections
laws : (g : Over) → BookLaws g.B.Boosted.meaning g.B.Parts.making
    (λ f s. AreShort f (g.B.Parts.collections s))
laws g = book_laws g.met.B.Boosted.laws g.met.B.Parts.laws g.met.B.Coded.told

pub returns-clause-history : goal.returns-clause-history
returns-clause-history g c format start wear rs leads empty =
    rw c.into_collections.ensures (subst
    (λ (t : State _). Serial (committed (acts_of rs)) (g.B.Parts.collections start)
    (g.B.Parts.collections t.now)) (sym c.self.view_is)
    (records_serial g.B.Boosted.meaning g.B.Parts.making (laws g).rules g.B.Parts.collections
    (λ s at c r. (g.met.B.Coded.told.answers s at c r).0) g.met.B.Coded.told.leaves
    g.met.B.Coded.told.makes format start wear rs c.args.self leads empty))
