use Rattle.std.proofs.Common.{refl, sym, subst}
use Rattle.records.specs.Short.{AreShort}
use Rattle.steps.proofs.BookLaws.{BookLaws, book_laws}
use Rattle.steps.proofs.Rows.{resting_is}
use Rattle.steps.specs.Machines.{IsUpheld}
use Rattle.steps.specs.Sound.{IsLoaded}
use Rattle.replay.proofs.LoadRows.{last_none}
use Rattle.replay.proofs.Loaded.{resting_told}
use Rattle.replay.proofs.loader.Loader.new.Given.{Over}
use Rattle.replay.proofs.loader.Loader.new.Goals as goal

-- the laws of the collections
laws : (g : Over) → BookLaws g.B.Boosted.meaning g.B.Parts.making
    (λ f s. AreShort f (g.B.Parts.collections s))
laws g = book_laws g.met.B.Boosted.laws g.met.B.Parts.laws g.met.B.Coded.told

pub invariant_of-result : goal.invariant_of-result
invariant_of-result g c = (
  subst (IsUpheld g.B.Boosted.meaning g.B.Parts.making (λ f s. AreShort f (g.B.Parts.collections s))
      (IsLoaded g.B.Boosted.meaning g.B.Parts.making))
      (sym (resting_is c.args.format c.args.parts c.args.wear c.new.result.now c.new.result.holds
      c.new-2.result c.args.wear c.new.ensures.now c.new.ensures.holds
      c.new-2.ensures.live c.new-2.ensures.entries refl))
      (resting_told g.B.Boosted.meaning g.B.Parts.making
      (λ f s. AreShort f (g.B.Parts.collections s))
      (laws g) c.args.format c.args.parts c.args.wear c.requires.within c.requires.worn
      c.requires.few
      c.requires.short),
  last_none c.new-2.result.live c.new-2.ensures.live,
)
