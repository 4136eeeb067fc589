-- The collections that a copy keeps, by their places in the store.
use Rattle.std.specs.Prelude.{◌≡◌, ℕ, ◌<◌, List, length, map, slice_index_or}
use Rattle.std.specs.List.{AllZip}
use Rattle.calls.specs.declared.refusal.Refusal.{Refusal}
use Rattle.calls.specs.Contents.{Collection}
use Rattle.catalog.specs.Making.{names_of}
use Rattle.catalog.specs.Places.{At}
use Rattle.recovery.specs.declared.editing.Edit.{Edit}
use Rattle.recovery.specs.declared.editing.Kept.{Kept}
use Rattle.recovery.specs.Edits.{edited, CanBeEdited, RefusesEdits}

-- the names that they have in the copy
abbrev pub kept_names : List Kept → List (List ℕ)
kept_names ks = map (λ k. k.name) ks

-- The one at the place has the name,
pub record IsNamedAt (ks : List Kept) (name : List ℕ) (at : ℕ) : Type 0 where
  pub within : at < length ks
  pub there : (d : Kept) → (slice_index_or ks at d).name ≡ name

-- or none has it.
abbrev pub HasNone : List Kept → List ℕ → Type 0
HasNone ks name = (k : ℕ) (d : Kept) → k < length ks → (slice_index_or ks k d).name ≡ name → ⊥

-- It is kept as this one: under its name, and what it holds stands at the place.
abbrev pub IsKept : List Collection → Kept → Collection → Type 0
IsKept s k x = (k.name ≡ x.name) × At (λ y. y.content ≡ x.content) s k.at

-- They are kept as these.
abbrev pub AreKept : List Collection → List Kept → List Collection → Type 0
AreKept s ks xs = AllZip (IsKept s) ks xs

-- Of any collections of these names, the edits can be made, and what they leave is kept.
abbrev pub Keeps : List Edit → (names : List (List ℕ)) → List Kept → Type 0
Keeps edits names ks = (s : List Collection) → names_of s ≡ names →
    CanBeEdited edits s × AreKept s ks (edited edits s)

-- Of any collections of these names, the edits are refused so.
abbrev pub Refuses : List Edit → (names : List (List ℕ)) → Refusal → Type 0
Refuses edits names e = (s : List Collection) → names_of s ≡ names → RefusesEdits edits s e

-- It is refused so, or for want of memory.
abbrev pub OrStarved : (Refusal → Type 0) → Refusal → Type 0
OrStarved P Refusal.NoMemory = Unit {0}
OrStarved P e = P e
