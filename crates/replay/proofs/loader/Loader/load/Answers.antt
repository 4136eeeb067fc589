use Rattle.std.proofs.Common.{Ok, refl, sym, ◌∙◌, ap, subst}
use Rattle.std.specs.List.{AllByRecursion}
use Rattle.records.specs.Reached.{IsReached}
use Rattle.records.specs.Short.{AreShort, IsShortItem}
use Rattle.records.proofs.Items.{short_loaded}
use Rattle.steps.specs.Machine.{State}
use Rattle.steps.specs.Machines.{unmade}
use Rattle.replay.specs.Loading.{LoadRow, LoadAnswers}
use Rattle.replay.proofs.LoadRows.{read_unreached, read_answered, read_refused}
use Rattle.replay.proofs.Loaded.{read_kept}
use Rattle.steps.specs.Views.{state_of}
use Rattle.steps.proofs.BookLaws.{BookLaws, book_laws}
use Rattle.replay.proofs.loader.Loader.load.Given.{Over}
use Rattle.replay.proofs.loader.Loader.load.Goals as goal
use Rattle.replay.proofs.loader.Loader.load.Goals.{in-Ok, in-Err}

-- the laws of the collections
laws : (g : Over) → BookLaws g.B.Boosted.meaning g.B.Parts.making
    (λ f s. AreShort f (g.B.Parts.collections s))
laws g = book_laws g.met.B.Boosted.laws g.met.B.Parts.laws g.met.B.Coded.told

pub returns-then-not-are_reached : goal.returns-then-not-are_reached
returns-then-not-are_reached g c =
    let i = c.self.inside in
    let none = read_unreached g.B.Parts.collections g.B.Boosted.meaning g.B.Parts.making
    g.met.B.Coded.told i.format i.shelf.now i.shelf.holds i.live i.wear
    c.args.name.now
    c.args.kind c.args.items.items
    (λ reached. let yes = c.are_reached.ensures.1
    (subst (AllByRecursion (IsReached i.wear)) (sym c.as_slice.ensures.value) reached) in
    let no_one = c.if-not-are_reached.true in cc) in (
      refl,
      λ v row. none v (subst (λ (s : State _). LoadRow g.B.Parts.collections
          g.B.Boosted.meaning g.B.Parts.making s c.args.name.now c.args.kind c.args.items.items v)
          (sym c.self.view_is) row),
    )

-- the wear reaches each item
reached : (g : Over) (c : goal.Joined-load g) →
    AllByRecursion (IsReached c.self.inside.wear) c.args.items.items
reached g c = subst (AllByRecursion (IsReached c.self.inside.wear)) c.as_slice.ensures.value
    (c.are_reached.ensures.0 c.if-not-are_reached.false)

pub invariant_of-self : goal.invariant_of-self
invariant_of-self g c = (
  read_kept g.B.Boosted.meaning g.B.Parts.making (λ f s. AreShort f (g.B.Parts.collections s))
      (laws g)
      g.B.Parts.collections g.met.B.Coded.told
      (λ f s t name kind items loads. short_loaded f (g.B.Parts.collections s)
      (g.B.Parts.collections t)
      name kind items loads)
      c.self.inside.format c.self.inside.shelf.now c.self.inside.shelf.holds
      c.self.inside.live
      c.self.inside.wear c.args.name.now c.args.kind c.args.items.items c.load.new.self
      c.load.result c.self.invariant.0
      (ap (λ (s : State _). s.live) c.self.view_is ∙ c.requires.none_live)
      (subst (λ (s : State _). AllByRecursion (IsShortItem s.format) c.args.items.items)
      (sym c.self.view_is) c.requires.short)
      (reached g c) (rw c.collections_mut.ensures.now at c.load.ensures.new)
      (rw c.collections_mut.ensures.now at c.load.ensures.loads)
      (rw c.collections_mut.ensures.now at c.load.ensures.not)
      (rw c.collections_mut.ensures.now at c.load.ensures.as_before),
  c.self.invariant.1,
)

pub returns : goal.returns
returns g c =
    let i = c.self.inside in
    elim c.match-load.branch [
      | in-Ok w ↦ rw w.result-is
          (subst (λ (s : State _). LoadAnswers
          (LoadRow g.B.Parts.collections g.B.Boosted.meaning g.B.Parts.making s c.args.name.now
          c.args.kind c.args.items.items) s (Ok w.in-Ok.loaded)
          (state_of i.format c.load.new.self i.shelf.holds i.live i.wear)) c.self.view_is
          (read_answered g.B.Parts.collections g.B.Boosted.meaning g.B.Parts.making
          g.met.B.Coded.told i.format i.shelf.now i.shelf.holds i.live i.wear
          c.args.name.now c.args.kind c.args.items.items
          c.load.new.self w.in-Ok.loaded (reached g c) c.self.invariant.0.reached
          (rw c.collections_mut.ensures.now at w.in-Ok.ensures.new)
          (rw c.collections_mut.ensures.now at w.in-Ok.ensures.loads)
          (rw c.collections_mut.ensures.now at w.in-Ok.ensures.not)))
      | in-Err w ↦ rw (w.result-is, w.unmade.ensures)
          (subst (λ (s : State _). LoadAnswers
          (LoadRow g.B.Parts.collections g.B.Boosted.meaning g.B.Parts.making s c.args.name.now
          c.args.kind c.args.items.items) s (unmade w.in-Err.refusal)
          (state_of i.format c.load.new.self i.shelf.holds i.live i.wear)) c.self.view_is
          (read_refused g.B.Parts.collections g.B.Boosted.meaning g.B.Parts.making
          g.met.B.Coded.told i.format i.shelf.now i.shelf.holds i.live i.wear
          c.args.name.now c.args.kind c.args.items.items
          c.load.new.self w.in-Err.refusal
          (rw c.collections_mut.ensures.now at w.in-Err.ensures.as_before)
          (rw c.collections_mut.ensures.now at w.in-Err.ensures.err)))
    ]
