-- Collections at their places: which calls belong where, how others are refused, and what so many
-- runs can reach.
use Rattle.std.specs.Prelude.{ℕ, zero, suc, ◌≤◌, List, [], ◌∷◌, length}
use Rattle.std.specs.List.{AllByRecursion}
use Rattle.calls.specs.declared.call.Call.{Call}
use Rattle.calls.specs.declared.refusal.Refusal.{Refusal}
use Rattle.calls.specs.Contents.{Content, InCounter, InStock, InQuotas, Collection}
use Rattle.calls.specs.Contents.{kind_of_content}
use Rattle.calls.specs.Counters as counters
use Rattle.calls.specs.Stocks as stocks
use Rattle.calls.specs.Quotas as quotas
use Rattle.boosted.specs.Kinds.{IsOf}

-- There is a member at the place, and P holds of it.
abbrev pub At : {X : Type 0} → (X → Type 0) → List X → ℕ → Type 0
At P [] at = ⊥
At P (x ∷ xs) zero = P x
At P (x ∷ xs) (suc at) = At P xs at

-- There is a collection at the place, and the call is one of its kind.
abbrev pub Belongs : List Collection → ℕ → Call → Type 0
Belongs s at c = At (λ x. IsOf (kind_of_content x.content) c) s at

-- A call is refused so where no collection is at the place, or one of another kind.
abbrev pub Misplaced : List Collection → ℕ → Call → Refusal → Type 0
Misplaced s at c Refusal.NoSuchCollection = length s ≤ at
Misplaced s at c Refusal.WrongKind = At (λ x. IsOf (kind_of_content x.content) c → ⊥) s at
Misplaced s at c r = ⊥

-- n runs can reach the content: only a counter, a stock and quotas have a bound.
abbrev pub Reaches : Content → ℕ → Type 0
Reaches (InCounter v) n = counters.IsWithin v n
Reaches (InStock v) n = stocks.IsWithin v n
Reaches (InQuotas q) n = quotas.IsWithin q n
Reaches s n = Unit {0}

-- n runs can reach each content.
abbrev pub IsWithin : List Collection → ℕ → Type 0
IsWithin s n = AllByRecursion (λ x. Reaches x.content n) s
