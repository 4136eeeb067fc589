-- Events one after another, and which of them may change places.
use Rattle.std.specs.Prelude.{◌≡◌, ℕ, ◌==◌, not, ◌⊎◌, List, [], ◌∷◌, ◌++◌}
use Rattle.std.specs.List.{filter, AllByRecursion}

-- does s e t: the event e leads from the state s to the state t. The events lead from s to t one
-- after another by `Leads` of the crate calls.

-- Where a and then b lead from s to t, b and then a do too.
abbrev pub Swaps : {S E : Type 0} → (S → E → S → Type 0) → E → E → Type 0
Swaps {S} does a b = (s m t : S) → does s a m → does m b t → (u : S) × does s b u × does u a t

-- The events of one owner, in their order, and those of all the others.
abbrev pub own : {E : Type 0} → (E → ℕ) → ℕ → List E → List E
own owner o es = filter (λ e. owner e == o) es

abbrev pub others : {E : Type 0} → (E → ℕ) → ℕ → List E → List E
others owner o es = filter (λ e. not (owner e == o)) es

-- Events of two owners are apart.
abbrev pub AllApart : {E : Type 0} → (E → E → Type 0) → (E → ℕ) → List E → Type 0
AllApart apart owner [] = Unit {0}
AllApart apart owner (e ∷ es) =
    AllByRecursion (λ f. (owner e ≡ owner f → ⊥) → apart e f) es × AllApart apart owner es

-- What events, their inverses and their laters keep.
pub record Laws {S E : Type 0} (does : S → E → S → Type 0) (undoes : E → S → S → Type 0)
    (apart : E → E → Type 0) (asked : E → Type 0) (late : E → Type 0) : Type 0 where
  -- the inverse leads back, and to no other state
  pub inverse : (e : E) (s t : S) → asked e → does s e t → undoes e t s
  pub inverse_only : (e : E) (s t u : S) → asked e → does s e t → undoes e t u → u ≡ s
  -- events that are apart commute
  pub commute : (a b : E) → asked a → asked b → apart a b → Swaps does a b
  -- a later moves left past an event that is apart from it
  pub moves_left : (a b : E) → asked a → late b → apart a b → Swaps does a b

-- x is the newest event of the owner o in es, and rest is es without it.
pub record IsNewest {E : Type 0} (owner : E → ℕ) (o : ℕ) (es : List E) (x : E)
    (rest : List E) : Type 0 where
  pub before : List E
  pub after : List E
  pub is : es ≡ before ++ x ∷ after
  pub rest_is : rest ≡ before ++ after
  pub mine : owner x ≡ o
  pub none_newer : AllByRecursion (λ f. owner f ≡ o → ⊥) after

-- An event that can happen in a state.
abbrev pub Ready : {S E : Type 0} → (S → E → S → Type 0) → S → E → Type 0
Ready {S} does s e = (t : S) × does s e t

-- Two different events, or two that are apart.
abbrev pub IsOther : {E : Type 0} → (E → E → Type 0) → E → E → Type 0
IsOther apart a b = (a ≡ b → ⊥) ⊎ apart a b

-- Each event is another than those behind it, or apart from them.
abbrev pub AllOther : {E : Type 0} → (E → E → Type 0) → List E → Type 0
AllOther apart [] = Unit {0}
AllOther apart (d ∷ ds) = AllByRecursion (IsOther apart d) ds × AllOther apart ds
