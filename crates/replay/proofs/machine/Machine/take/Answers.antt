use Rattle.undo_log.specs.Entries.{entry_of}
use Rattle.steps.specs.Machines.{IsUpheld}
use Rattle.steps.specs.Sound.{IsSound}
use Rattle.steps.proofs.AloneRows.{kept_if, same_on}
use Rattle.steps.proofs.InvariantRows.{take_upheld}
use Rattle.records.specs.Short.{AreShort}
use Rattle.steps.proofs.BookLaws.{BookLaws, book_laws}
use Rattle.replay.proofs.machine.Machine.take.Given.{Over}
use Rattle.replay.proofs.machine.Machine.take.Goals as goal

-- the laws of the collections
laws : (g : Over) → BookLaws g.B.Boosted.meaning g.B.Parts.making
    (λ f s. AreShort f (g.B.Parts.collections s))
laws g = book_laws g.met.B.Boosted.laws g.met.B.Parts.laws g.met.B.Coded.told

pub invariant_of-self : goal.invariant_of-self
invariant_of-self g c = kept_if
    (IsUpheld g.B.Boosted.meaning g.B.Parts.making (λ f s. AreShort f (g.B.Parts.collections s))
    (IsSound g.B.Boosted.meaning g.B.Parts.making)) c.take.result c.take.ensures.ok
    c.take.ensures.same (λ row. take_upheld g.B.Boosted.meaning g.B.Parts.making
    (λ f s. AreShort f (g.B.Parts.collections s)) (laws g) _ c.self.invariant c.args.number
    (entry_of c.args.entry) _ row) (λ same. same_on same.0 same.1) c.self.invariant
