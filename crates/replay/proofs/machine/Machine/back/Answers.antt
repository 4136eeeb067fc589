use Rattle.steps.specs.Machines.{IsUpheld}
use Rattle.steps.specs.Sound.{IsSound}
use Rattle.steps.proofs.AloneRows.{kept_if, same_on}
use Rattle.steps.proofs.InvariantRows.{back_upheld}
use Rattle.steps.proofs.Steps.{back_can}
use Rattle.records.specs.Short.{AreShort}
use Rattle.steps.proofs.BookLaws.{BookLaws, book_laws}
use Rattle.replay.proofs.machine.Machine.back.Given.{Over}
use Rattle.replay.proofs.machine.Machine.back.Goals as goal

-- the laws of the collections
laws : (g : Over) → BookLaws g.B.Boosted.meaning g.B.Parts.making
    (λ f s. AreShort f (g.B.Parts.collections s))
laws g = book_laws g.met.B.Boosted.laws g.met.B.Parts.laws g.met.B.Coded.told

pub invariant_of-self : goal.invariant_of-self
invariant_of-self g c = kept_if
    (IsUpheld g.B.Boosted.meaning g.B.Parts.making (λ f s. AreShort f (g.B.Parts.collections s))
    (IsSound g.B.Boosted.meaning g.B.Parts.making)) c.back.result c.back.ensures.ok
    c.back.ensures.same
    (λ row. back_upheld g.B.Boosted.meaning g.B.Parts.making
    (λ f s. AreShort f (g.B.Parts.collections s))
    (laws g) _ c.self.invariant c.args.number _ row) (λ same. same_on same.0 same.1)
    c.self.invariant

pub back-requires-clause-undoes : goal.back-requires-clause-undoes
back-requires-clause-undoes g c = λ x newest. back_can g.B.Boosted.meaning g.B.Parts.making
    (laws g).rules _ c.self.invariant.holds c.args.number x newest.0 newest.1
