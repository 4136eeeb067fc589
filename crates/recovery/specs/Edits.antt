-- What a copy leaves out of a store, and what it names otherwise.
use Rattle.std.specs.Prelude.{◌≡◌, ℕ, List, [], ◌∷◌, ◌++◌, map, cond, not, Bool, bytes_eq, Contains}
use Rattle.std.specs.List.{filter}
use Rattle.calls.specs.declared.refusal.Refusal.{Refusal}
use Rattle.calls.specs.Contents.{Collection}
use Rattle.calls.specs.Names.{IsName, RefusesName}
use Rattle.catalog.specs.Making.{names_of, IsFree}
use Rattle.replay.specs.Journals.{StandsFor}
use Rattle.replay.specs.Reading.{IsSound}
use Rattle.recovery.specs.declared.editing.Edit.{Edit}

-- ---- the collections that are left

abbrev pub has_name : (name : List ℕ) → Collection → Bool
has_name name x = bytes_eq x.name name

-- the collection, under the other name where it has the one
abbrev pub renamed : (from to : List ℕ) → Collection → Collection
renamed from to x = record { name = cond (has_name from x) to x.name; content = x.content }

-- What an edit leaves: all collections but those of the name; or all, one of them under another
-- name.
abbrev pub edited_once : Edit → List Collection → List Collection
edited_once (Edit.Without name) xs = filter (λ x. not (has_name name x)) xs
edited_once (Edit.Rename from to) xs = map (renamed from to) xs

-- Edits are made one after another.
abbrev pub edited : List Edit → List Collection → List Collection
edited [] xs = xs
edited (e ∷ es) xs = edited es (edited_once e xs)

-- ---- when they can be made

-- The name that is left out or replaced is there, and the new one is a good one that is free.
abbrev pub CanEdit : Edit → (names : List (List ℕ)) → Type 0
CanEdit (Edit.Without name) names = Contains names name
CanEdit (Edit.Rename from to) names = Contains names from × IsName to × IsFree names to

-- Each edit can be made once those before it were.
abbrev pub CanBeEdited : List Edit → List Collection → Type 0
CanBeEdited [] xs = Unit {0}
CanBeEdited (e ∷ es) xs = CanEdit e (names_of xs) × CanBeEdited es (edited_once e xs)

-- ---- why they are refused

-- A new name is refused so: as a name, and where it is there.
abbrev pub RefusesNew : (names : List (List ℕ)) → List ℕ → Refusal → Type 0
RefusesNew names to Refusal.NameTaken = IsName to × Contains names to
RefusesNew names to e = RefusesName to e

-- An edit is refused so: where no collection has the name, and then for the new one.
abbrev pub RefusesEdit : Edit → (names : List (List ℕ)) → Refusal → Type 0
RefusesEdit (Edit.Without name) names Refusal.NoSuchCollection = IsFree names name
RefusesEdit (Edit.Without name) names e = ⊥
RefusesEdit (Edit.Rename from to) names Refusal.NoSuchCollection = IsFree names from
RefusesEdit (Edit.Rename from to) names e = Contains names from × RefusesNew names to e

-- Edits are refused so: the first one that cannot be made is refused, once those before it were
-- made.
pub record RefusesEdits (edits : List Edit) (xs : List Collection) (e : Refusal) : Type 0 where
  pub before : List Edit
  pub edit : Edit
  pub after : List Edit
  pub are : edits ≡ before ++ edit ∷ after
  pub can : CanBeEdited before xs
  pub refused : RefusesEdit edit (names_of (edited before xs)) e

-- The bytes are sound, and the edits are refused so for the content that they stand for.
pub record IsUneditable (bytes : List ℕ) (edits : List Edit) (e : Refusal) : Type 0 where
  pub sound : IsSound bytes
  pub refused : (content : List Collection) → StandsFor bytes content →
      RefusesEdits edits content e
