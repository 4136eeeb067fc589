use Rattle.std.proofs.Common.{◌≢◌, ◌∙◌, None, sym, subst}
use Rattle.std.specs.Prelude.{IsSome}
use Rattle.images.specs.Gathers.{Packs, Repeats}
use Rattle.engine.proofs.Packed.{packed_before}
use Rattle.store.specs.Gatherers.{GathererState}
use Rattle.store.proofs.Gathers.{holds_frozen, repeats_both, some_is}
use Rattle.store.proofs.VaultSteps.{some_frozen}
use Rattle.store.proofs.gatherer.Gatherer.pack.Goals as goal

pub begin-requires-clause-packs : goal.begin-requires-clause-packs
begin-requires-clause-packs g c =
    let m = c.self.inside.gather in
    let packs = c.in_ok-image.ensures.ok in
    packed_before c.self.inside.of_keeper.gather m c.in_ok-image.image
    (c.self.invariant.frozen (some_frozen m c.in_ok-image.image packs)) packs

pub pack-requires : goal.pack-requires
pack-requires g c = subst (λ (s : GathererState). IsSome s.gather.frozen)
    (sym c.self.view_is) c.requires.frozen

pub invariant_of-self : goal.invariant_of-self
invariant_of-self g c =
    let m = c.self.inside.gather in
    let some : m.frozen ≢ None = some_is m.frozen
    (subst (λ (s : GathererState). IsSome s.gather.frozen) (sym c.self.view_is)
    c.requires.frozen) in
    let back : Repeats m c.pack.new.gather = c.in_err-image.ensures.back in
    holds_frozen g.J.Naming c.self.inside.of_book c.self.inside.of_keeper c.pack.new.gather
    c.self.invariant.gathering c.self.invariant.awaited (λ none. some (sym back.frozen ∙ none))
    (repeats_both c.self.inside.of_keeper.gather m c.pack.new.gather
    (c.self.invariant.frozen some) back)
