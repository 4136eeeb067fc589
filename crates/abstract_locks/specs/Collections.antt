-- The collections in a table, and what is held on each.
use Rattle.std.specs.Prelude.{◌≡◌, ◌↔◌, ℕ, ◌≤◌, Bool, cond, List, All, Contains, map}
use Rattle.std.specs.Prelude.{slice_index_or}
use Rattle.std.specs.List.{flat_map, range_with_len}
use Rattle.calls.specs.Limits.{max_collections}
use Rattle.abstract_locks.specs.declared.table.Hold.{Hold}
use Rattle.abstract_locks.specs.Claimed.{Claimed, nothing}

-- What is held on the collection with the number: nothing where it has no place.
abbrev pub held_on : List Claimed → (at : ℕ) → Claimed
held_on collections at = slice_index_or collections at nothing

-- What is held on all of them.
abbrev pub all_held : List Claimed → List Hold
all_held = flat_map (λ c. c.holds)

-- For how many more holds each of the 256 collections that there may be has room: for none where no
-- owner's list has.
unfoldable pub rooms : List Claimed → (ready : Bool) → List ℕ
rooms collections ready =
    map (λ at. cond ready (held_on collections at).room 0) (range_with_len 0 max_collections)

-- What is held in the place of a collection is held on that collection.
abbrev pub AreOnTheirOwn : List Claimed → Type 0
AreOnTheirOwn collections = (at : ℕ) → All (λ h. h.at ≡ at) (held_on collections at).holds

-- On each collection the same is held, with the same room.
pub record AreAlike (old new : List Claimed) : Type 0 where
  pub all : all_held new ≡ all_held old
  pub each : (at : ℕ) → held_on new at ≡ held_on old at

-- Each hold is held on its own collection, and noted for its owner.
pub record AreInTable (collections : List Claimed) (noted : List Hold) : Type 0 where
  pub own : AreOnTheirOwn collections
  pub listed : (h : Hold) → Contains (all_held collections) h → Contains noted h

-- The holds are gone and the others are held as before, each on its own collection, and no room is
-- lost.
pub record AreWithout (gone : List Hold) (old new : List Claimed) : Type 0 where
  pub own : AreOnTheirOwn new
  pub holds : (h : Hold) →
      Contains (all_held new) h ↔ (Contains (all_held old) h × (Contains gone h → ⊥))
  pub room : (at : ℕ) → (held_on old at).room ≤ (held_on new at).room
