-- What live transactions hold, and what stands in the way of a need.
use Rattle.std.specs.Prelude.{◌≡◌, ◌≢◌, ℕ, ◌<◌, ◌≤◌, ◌↔◌, ◌⊎◌, List, slice_index, All}
use Rattle.std.specs.Prelude.{Any, Contains}
use Rattle.calls.specs.declared.need.Need.{Need}
use Rattle.calls.specs.declared.refusal.Refusal.{Refusal}
use Rattle.calls.specs.Rules.{Conflict}
use Rattle.abstract_locks.specs.declared.table.Hold.{Hold}

-- The needs that are held; and, for each collection by its number, for how many more holds on it
-- there is room.
pub record Holdings : Type 0 where
  pub holds : List Hold
  pub rooms : List ℕ

-- The owner's hold of the need on the collection.
abbrev pub hold : (owner at : ℕ) → Need → Hold
hold owner at need = record { owner = owner; at = at; need = need }

-- The hold keeps the need on the collection from the owner: another owner has it, and the two
-- conflict.
abbrev pub Blocks : (owner at : ℕ) → Need → Hold → Type 0
Blocks owner at need h = (h.owner ≢ owner) × (h.at ≡ at) × Conflict h.need need

-- No hold keeps the need from the owner.
abbrev pub IsClear : List Hold → (owner at : ℕ) → Need → Type 0
IsClear holds owner at need = All (λ h. Blocks owner at need h → ⊥) holds

-- n is the least owner of a hold that keeps the need from the owner.
pub record IsBusy (holds : List Hold) (owner at : ℕ) (need : Need) (n : ℕ) : Type 0 where
  pub blocked : Any (λ h. Blocks owner at need h × (h.owner ≡ n)) holds
  pub least : All (λ h. Blocks owner at need h → n ≤ h.owner) holds

-- There is room for one more hold on the collection.
abbrev pub HasRoom : Holdings → ℕ → Type 0
HasRoom table at = 0 < slice_index table.rooms at

-- Where there was room there still is.
abbrev pub KeepsRoom : (old new : Holdings) → Type 0
KeepsRoom old new = (at : ℕ) → HasRoom old at → HasRoom new at

-- The refusal is Busy, with the least other owner of a need that conflicts.
abbrev pub IsBusyRefusal : List Hold → (owner at : ℕ) → Need → Refusal → Type 0
IsBusyRefusal holds owner at need (Refusal.Busy n) = IsBusy holds owner at need n
IsBusyRefusal holds owner at need r = ⊥

-- Why a need that is asked for is refused: Busy, or want of memory where nothing else is in the way
-- and no room is reserved.
abbrev pub IsAskRefusal : Holdings → (owner at : ℕ) → Need → Refusal → Type 0
IsAskRefusal table owner at need (Refusal.Busy n) = IsBusy table.holds owner at need n
IsAskRefusal table owner at need Refusal.NoMemory =
    IsClear table.holds owner at need × (HasRoom table at → ⊥)
IsAskRefusal table owner at need r = ⊥

-- What was held is held, and the one hold besides, and no other.
abbrev pub IsAdded : (old new : List Hold) → Hold → Type 0
IsAdded old new added = (h : Hold) → Contains new h ↔ (Contains old h ⊎ (h ≡ added))

-- The holds of the owner are gone, and the others are held as before.
abbrev pub IsGivenUp : (old new : List Hold) → ℕ → Type 0
IsGivenUp old new owner = (h : Hold) → Contains new h ↔ (Contains old h × (h.owner ≢ owner))

-- The one hold is gone, and the others are held as before.
abbrev pub IsRemoved : (old new : List Hold) → Hold → Type 0
IsRemoved old new gone = (h : Hold) → Contains new h ↔ (Contains old h × (h ≢ gone))
