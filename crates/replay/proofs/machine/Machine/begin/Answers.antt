use Rattle.std.proofs.Common.{ap}
use Rattle.steps.specs.Machines.{IsUpheld}
use Rattle.steps.specs.Sound.{IsSound}
use Rattle.steps.specs.Wholes.{TransactionsState, state_on}
use Rattle.steps.proofs.AloneRows.{kept_if, begin_on}
use Rattle.steps.proofs.InvariantRows.{begin_upheld}
use Rattle.records.specs.Short.{AreShort}
use Rattle.steps.proofs.BookLaws.{BookLaws, book_laws}
use Rattle.replay.proofs.machine.Machine.begin.Given.{Over}
use Rattle.replay.proofs.machine.Machine.begin.Goals as goal

-- the laws of the collections
laws : (g : Over) → BookLaws g.B.Boosted.meaning g.B.Parts.making
    (λ f s. AreShort f (g.B.Parts.collections s))
laws g = book_laws g.met.B.Boosted.laws g.met.B.Parts.laws g.met.B.Coded.told

pub invariant_of-self : goal.invariant_of-self
invariant_of-self g c = kept_if
    (IsUpheld g.B.Boosted.meaning g.B.Parts.making (λ f s. AreShort f (g.B.Parts.collections s))
    (IsSound g.B.Boosted.meaning g.B.Parts.making)) c.begin.result c.begin.ensures.ok
    c.begin.ensures.same
    (λ row. begin_upheld g.B.Boosted.meaning g.B.Parts.making
    (λ f s. AreShort f (g.B.Parts.collections s))
    (laws g) _ c.self.invariant c.args.number _
    (begin_on c.self.inside.transactions c.begin.new.self c.args.number c.self.inside.shelf row))
    (ap (λ (a : TransactionsState). state_on a c.self.inside.shelf)) c.self.invariant

pub invariant_of-self-2 : goal.invariant_of-self-2
invariant_of-self-2 g c = begin_upheld g.B.Boosted.meaning g.B.Parts.making
    (λ f s. AreShort f (g.B.Parts.collections s)) (laws g) _ c.self.invariant c.args.number _
    (begin_on c.self.inside.transactions c.begin.new.self c.args.number c.self.inside.shelf
    c.in_ok-begin.ensures.ok)
