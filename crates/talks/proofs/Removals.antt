-- Which removal is asked for, by the kind of the collection.
use Rattle.std.proofs.Common.{◌≡◌, ℕ, zero, suc, List, [], ◌∷◌, Some, sym, ap}
use Rattle.std.specs.Option.{unwrap_or}
use Rattle.calls.specs.declared.call.Call.{Call}
use Rattle.calls.specs.declared.kind.Kind.{Kind}
use Rattle.calls.specs.Contents.{Collection}
use Rattle.calls.specs.Formats.{widest}
use Rattle.boosted.specs.Meaning.{CanAsk}
use Rattle.catalog.specs.Meaning.{catalog_meaning}
use Rattle.catalog.specs.Places.{Belongs}
use Rattle.talks.specs.Clients.{kind_at}

of_map : (s : List Collection) (at key : ℕ) → kind_at s at ≡ Some Kind.Map →
    Belongs s at (Call.MapRemove key)
of_map [] at key is = absurd (cc)
of_map (x ∷ s) zero key is = sym (ap (λ o. unwrap_or o Kind.Map) is)
of_map (x ∷ s) (suc at) key is = of_map s at key is

map_of : (s : List Collection) (at key : ℕ) → Belongs s at (Call.MapRemove key) →
    kind_at s at ≡ Some Kind.Map
map_of [] at key is = absurd is
map_of (x ∷ s) zero key is = ap Some (sym is)
map_of (x ∷ s) (suc at) key is = map_of s at key is

pub can_remove : (s : List Collection) (at key : ℕ) → kind_at s at ≡ Some Kind.Map →
    CanAsk catalog_meaning widest s at (Call.MapRemove key)
can_remove s at key is = (of_map s at key is, tt, tt)

pub cannot_remove : (s : List Collection) (at key : ℕ) → (kind_at s at ≡ Some Kind.Map → ⊥) →
    CanAsk catalog_meaning widest s at (Call.MapRemove key) → ⊥
cannot_remove s at key other can = other (map_of s at key can.0)
