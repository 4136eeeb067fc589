use Rattle.std.proofs.Common.{sym, subst}
use Rattle.steps.specs.Machines.{IsUpheld}
use Rattle.steps.specs.Sound.{IsSound}
use Rattle.steps.proofs.AloneRows.{same_on}
use Rattle.steps.proofs.InvariantRows.{resting_upheld}
use Rattle.records.specs.Short.{AreShort}
use Rattle.steps.proofs.BookLaws.{BookLaws, book_laws}
use Rattle.replay.proofs.machine.Machine.new.Given.{Over}
use Rattle.replay.proofs.machine.Machine.new.Goals as goal

-- the laws of the collections
laws : (g : Over) → BookLaws g.B.Boosted.meaning g.B.Parts.making
    (λ f s. AreShort f (g.B.Parts.collections s))
laws g = book_laws g.met.B.Boosted.laws g.met.B.Parts.laws g.met.B.Coded.told

pub invariant_of-result : goal.invariant_of-result
invariant_of-result g c =
    subst (IsUpheld g.B.Boosted.meaning g.B.Parts.making
    (λ f s. AreShort f (g.B.Parts.collections s))
    (IsSound g.B.Boosted.meaning g.B.Parts.making))
    (sym (same_on c.new-2.ensures
    (λ i. record { now = c.new.ensures.now i; holds = c.new.ensures.holds i })))
    (resting_upheld g.B.Boosted.meaning g.B.Parts.making
    (λ f s. AreShort f (g.B.Parts.collections s))
    (laws g) c.args.format c.args.parts c.args.wear c.requires.within c.requires.worn c.requires.few
    c.requires.short)
