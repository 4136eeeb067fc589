use Rattle.records.specs.Short.{AreShort}
use Rattle.steps.proofs.BookLaws.{BookLaws, book_laws}
use Rattle.steps.proofs.AlikeStates.{answers_alike}
use Rattle.replay.proofs.machine.Machine.repeat.Given.{Over}
use Rattle.replay.proofs.machine.Machine.repeat.Goals as goal

-- the laws of the collections
laws : (g : Over) → BookLaws g.B.Boosted.meaning g.B.Parts.making
    (λ f s. AreShort f (g.B.Parts.collections s))
laws g = book_laws g.met.B.Boosted.laws g.met.B.Parts.laws g.met.B.Coded.told

pub returns : goal.returns
returns g c =
    answers_alike g.B.Boosted.meaning g.B.Parts.making (laws g).rules c.args.self.now
    c.upheld.ensures.holds
    c.args.entry c.step.result c.step.new.self c.step.ensures
