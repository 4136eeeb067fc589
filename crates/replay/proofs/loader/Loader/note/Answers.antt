use Rattle.std.proofs.Common.{◌++◌, ◌∷◌, [], refl, sym, ◌∙◌, ap, subst}
use Rattle.abstract_locks.specs.Holds.{hold, IsAdded, IsClear}
use Rattle.undo_log.specs.Entries.{entry_of, place_of, need_to_take}
use Rattle.steps.specs.Machine.{State}
use Rattle.replay.specs.Loading.{IsLast, CanHold, HeldRow}
use Rattle.replay.proofs.LoadRows.{held_row, hold_clear}
use Rattle.replay.proofs.Loaded.{held_upheld}
use Rattle.records.specs.Short.{AreShort}
use Rattle.steps.specs.Views.{state_of}
use Rattle.steps.proofs.BookLaws.{BookLaws, book_laws}
use Rattle.replay.proofs.loader.Loader.note.Given.{Over}
use Rattle.replay.proofs.loader.Loader.note.Goals as goal

-- the laws of the collections
laws : (g : Over) → BookLaws g.B.Boosted.meaning g.B.Parts.making
    (λ f s. AreShort f (g.B.Parts.collections s))
laws g = book_laws g.met.B.Boosted.laws g.met.B.Parts.laws g.met.B.Coded.told

pub hold-requires : goal.hold-requires
hold-requires g c =
    let n = c.args.number in
    let e = entry_of c.args.entry in
    let can = subst (λ (s : State _). CanHold g.B.Boosted.meaning s n e) (sym c.self.view_is)
    c.requires.can in
    rw (c.at.ensures, c.need.ensures) (hold_clear g.B.Boosted.meaning _ n e can)

-- what was noted
step : (g : Over) (c : goal.After-push g) → let i = c.self.inside in
    HeldRow g.B.Boosted.meaning (state_of i.format i.shelf.now i.shelf.holds i.live i.wear)
    c.args.number (entry_of c.args.entry)
    (state_of i.format c.hold.new.self.now c.hold.new.self.holds c.push.new.self i.wear)
step g c =
    let i = c.self.inside in
    let n = c.args.number in
    let e = entry_of c.args.entry in
    let can = subst (λ (s : State _). CanHold g.B.Boosted.meaning s n e) (sym c.self.view_is)
    c.requires.can in
    let shelf = c.hold.new.self in
    held_row i.format i.shelf.now i.shelf.holds i.live i.wear n shelf.now shelf.holds
    c.push.new.self i.wear g.B.Boosted.meaning e can
    (rw (← c.at.ensures, ← c.need.ensures) c.in_ok-hold.ensures.held) c.in_ok-hold.ensures.now
    (c.push.ensures.live ∙ c.in_ok-reserve.ensures.live)
    (c.push.ensures.entries ∙
    ap (λ l. l ++ (n, e) ∷ []) c.in_ok-reserve.ensures.entries) refl

pub invariant_of-self-2 : goal.invariant_of-self-2
invariant_of-self-2 g c = (
  held_upheld g.B.Boosted.meaning g.B.Parts.making (λ f s. AreShort f (g.B.Parts.collections s))
      (laws g) _ c.self.invariant.0 c.args.number (entry_of c.args.entry) _ c.requires.pairs
      (step g c),
  subst (λ l. IsLast l c.self.inside.last)
      (sym (c.push.ensures.live ∙ c.in_ok-reserve.ensures.live)) c.self.invariant.1,
)

pub returns-clause-ok : goal.returns-clause-ok
returns-clause-ok g c = rw (← c.self.view_is) (step g c)
