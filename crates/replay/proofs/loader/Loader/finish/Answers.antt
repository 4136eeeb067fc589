use Rattle.std.proofs.Common.{sym, ap, subst, map, rules}
use Rattle.calls.specs.Transactions.{Leads, calls_of}
use Rattle.undo_log.specs.Logs.{Log}
use Rattle.records.specs.Short.{AreShort}
use Rattle.steps.specs.Machine.{Does}
use Rattle.steps.specs.Machines.{IsUpheld}
use Rattle.steps.specs.Sound.{IsSound}
use Rattle.replay.specs.Loading.{HasRoomBack, DoneAgain}
use Rattle.replay.proofs.Loaded.{room_back, settled_upheld}
use Rattle.steps.specs.Views.{state_of}
use Rattle.steps.proofs.BookLaws.{BookLaws, book_laws}
use Rattle.replay.proofs.loader.Loader.finish.Given.{Over}
use Rattle.replay.proofs.loader.Loader.finish.Goals as goal

-- the laws of the collections
laws : (g : Over) → BookLaws g.B.Boosted.meaning g.B.Parts.making
    (λ f s. AreShort f (g.B.Parts.collections s))
laws g = book_laws g.met.B.Boosted.laws g.met.B.Parts.laws g.met.B.Coded.told

pub redo-requires : goal.redo-requires
redo-requires g c =
    rw c.collections_mut.ensures.now (room_back g.B.Boosted.meaning g.B.Parts.making
    (λ f s. AreShort f (g.B.Parts.collections s)) (laws g) _ c.self.invariant.0)

pub of_parts-requires : goal.of_parts-requires
of_parts-requires g c =
    let i = c.self.inside in
    let done = subst (λ b. DoneAgain g.B.Boosted.meaning
    (calls_of (map (λ e. e.1) i.live.entries)) b i.shelf.now c.redo.new.parts)
    c.if-not-branch.false (rw c.collections_mut.ensures.now at c.in_ok-redo.ensures.ok) in
    rw c.of_live.ensures (subst (λ v. IsUpheld g.B.Boosted.meaning g.B.Parts.making
    (λ f s. AreShort f (g.B.Parts.collections s)) (IsSound g.B.Boosted.meaning g.B.Parts.making)
    (state_of i.format v i.shelf.holds i.live i.wear)) (sym done.0)
    (settled_upheld g.B.Boosted.meaning g.B.Parts.making
    (λ f s. AreShort f (g.B.Parts.collections s))
    (laws g) _ c.self.invariant.0 done.1.0 done.1.1))

pub returns-clause-machine : goal.returns-clause-machine
returns-clause-machine g c = search rules
