-- Names, and what the making of a collection keeps.
use Rattle.std.specs.Prelude.{◌≡◌, ℕ, ◌<◌, ◌≤◌, List, [], ◌∷◌, ◌++◌, Some, length, map, slice_get}
use Rattle.std.specs.Prelude.{Contains}
use Rattle.calls.specs.declared.kind.Kind.{Kind}
use Rattle.calls.specs.declared.call.Call.{Call}
use Rattle.calls.specs.declared.reply.Reply.{Reply}
use Rattle.calls.specs.declared.refusal.Refusal.{Refusal}
use Rattle.calls.specs.Contents.{Collection}
use Rattle.calls.specs.Names.{IsName, RefusesName}
use Rattle.calls.specs.Rules.{Deferrable}
use Rattle.calls.specs.Limits.{max_collections}
use Rattle.boosted.specs.Meaning.{Meaning, Does}

-- The names, in the order of making.
abbrev pub names_of : List Collection → List (List ℕ)
names_of s = map (λ x. x.name) s

-- The name stands at the place, and at no other.
pub record IsPlaceOf (names : List (List ℕ)) (name : List ℕ) (at : ℕ) : Type 0 where
  pub there : slice_get names at ≡ Some name
  pub only : (k : ℕ) → slice_get names k ≡ Some name → k ≡ at

-- A name is free: no collection has it.
abbrev pub IsFree : List (List ℕ) → List ℕ → Type 0
IsFree names name = Contains names name → ⊥

-- No name stands at two places.
abbrev pub AreDistinct : List (List ℕ) → Type 0
AreDistinct names =
    (name : List ℕ) (j k : ℕ) → slice_get names j ≡ Some name → slice_get names k ≡ Some name →
    j ≡ k

-- A search for a name is refused so.
abbrev pub FindRefused : List (List ℕ) → List ℕ → Refusal → Type 0
FindRefused names name Refusal.NoSuchCollection = IsName name × IsFree names name
FindRefused names name e = RefusesName name e

-- A collection can be made under the name.
pub record IsNew (names : List (List ℕ)) (name : List ℕ) : Type 0 where
  pub good : IsName name
  pub free : IsFree names name
  pub few : length names < max_collections

-- A name under which none can be made is refused so,
abbrev pub NewRefused : List (List ℕ) → List ℕ → Refusal → Type 0
NewRefused names name Refusal.NameTaken = IsName name × Contains names name
NewRefused names name Refusal.TooManyCollections =
    IsName name × IsFree names name × (max_collections ≤ length names)
NewRefused names name e = RefusesName name e

-- and a making so.
abbrev pub MakeRefused : List (List ℕ) → List ℕ → Refusal → Type 0
MakeRefused names name Refusal.NoMemory = IsNew names name
MakeRefused names name e = NewRefused names name e

-- S: contents, which have names, and in which collections are made.
pub record Making (S : Type 0) : Type 1 where
  -- the names, in the order of making
  pub names : S → List (List ℕ)
  -- the making of an empty collection of a name and a kind leads from one content to another
  pub makes : S → List ℕ → Kind → S → Type 0

pub record MakingLaws {S A : Type 0} (meaning : Meaning S A) (making : Making S) : Type 0 where
  -- The empty content has no name, and a call leaves the names.
  pub begins_unnamed : making.names meaning.empty ≡ []
  pub runs_keep_names : (s : S) (at : A) (c : Call) (r : Reply) → meaning.answers s at c r →
      making.names (meaning.leaves s at c r) ≡ making.names s
  -- A making leads to one content.
  pub makes_one : (s t u : S) (name : List ℕ) (kind : Kind) → making.makes s name kind t →
      making.makes s name kind u → t ≡ u
  -- It takes a name that is free, which comes to the end.
  pub makes_named : (s t : S) (name : List ℕ) (kind : Kind) → making.makes s name kind t →
      IsFree (making.names s) name × (making.names t ≡ making.names s ++ name ∷ [])
  -- A call before it can be made after it, with the same reply,
  pub makes_before_calls : (s t u : S) (name : List ℕ) (kind : Kind) (at : A) (c : Call)
      (r : Reply) →
      Does meaning s at c r t → making.makes t name kind u →
      (v : S) × making.makes s name kind v × Does meaning v at c r u
  -- and a call from the same content leads with the same reply past it.
  pub makes_after_calls : (s t u : S) (name : List ℕ) (kind : Kind) (at : A) (c : Call)
      (r : Reply) →
      making.makes s name kind u → Does meaning s at c r t →
      (v : S) × making.makes t name kind v × Does meaning u at c r v
  -- What belongs stays so, what can be deferred and is Done stays Done, and a making wears nothing.
  pub makes_keep_belonging : (s t : S) (name : List ℕ) (kind : Kind) (at : A) (c : Call) →
      making.makes s name kind t → meaning.belongs s at c → meaning.belongs t at c
  pub makes_keep_deferred : (s t : S) (name : List ℕ) (kind : Kind) (at : A) (d : Call) →
      making.makes s name kind t → Deferrable d → meaning.answers s at d Reply.Done →
      meaning.answers t at d Reply.Done
  pub makes_keep_within : (s t : S) (name : List ℕ) (kind : Kind) (n : ℕ) →
      making.makes s name kind t → meaning.within s n → meaning.within t n
