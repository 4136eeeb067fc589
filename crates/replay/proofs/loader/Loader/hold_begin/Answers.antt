use Rattle.std.proofs.Common.{arith, refl}
use Rattle.records.specs.Short.{AreShort}
use Rattle.replay.proofs.LoadRows.{above_last, last_begun, stand_row}
use Rattle.replay.proofs.Loaded.{stand_upheld}
use Rattle.steps.proofs.BookLaws.{BookLaws, book_laws}
use Rattle.replay.proofs.loader.Loader.hold_begin.Given.{Over}
use Rattle.replay.proofs.loader.Loader.hold_begin.Goals as goal

-- the laws of the collections
laws : (g : Over) → BookLaws g.B.Boosted.meaning g.B.Parts.making
    (λ f s. AreShort f (g.B.Parts.collections s))
laws g = book_laws g.met.B.Boosted.laws g.met.B.Parts.laws g.met.B.Coded.told

pub invariant_of-self-2 : goal.invariant_of-self-2
invariant_of-self-2 g c =
    let i = c.self.inside in
    let n = c.args.number in
    let above = above_last i.live.live i.last n c.self.invariant.1
    (omega (arith, c.if-number-self.false)) in
    let began = c.enter.new.self in
    let row = stand_row i.format i.shelf.now i.shelf.holds i.live i.wear n
    began i.wear c.requires above (omega (
      arith,
      c.count_live.ensures,
      c.if-count_live-ge-MAX_LIVE.false,
    )) c.in_ok-enter.ensures.live c.in_ok-enter.ensures.entries refl in (
      stand_upheld g.B.Boosted.meaning g.B.Parts.making
          (λ f s. AreShort f (g.B.Parts.collections s))
          (laws g) _ c.self.invariant.0 n _ row,
      last_begun i.live.live c.enter.new.self.live n above c.in_ok-enter.ensures.live,
    )
