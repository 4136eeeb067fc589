-- The order in which the holds of a collection stand.
use Rattle.std.specs.Prelude.{◌≡◌, ℕ, ◌<◌, ◌≤◌, Result, List, [], ◌∷◌, length, take, drop, All}
use Rattle.std.specs.Prelude.{HoldsAt, MatchResult}
use Rattle.std.specs.declared.cmp.Ordering.{Ordering}
use Rattle.std.specs.Ordering.{nat_cmp}
use Rattle.std.specs.Cmp.Lexicographic.{slice_cmp}
use Rattle.calls.specs.Modes.{rank}
use Rattle.abstract_locks.specs.declared.table.Hold.{Hold}

-- What the holds are ordered by: the lowest key, then the owner and the rest.
abbrev pub rest_of_key : Hold → List ℕ
rest_of_key h = h.owner ∷ h.need.high ∷ rank h.need.mode ∷ h.at ∷ []

abbrev pub key : Hold → List ℕ
key h = h.need.low ∷ rest_of_key h

-- The keys are compared as words in a dictionary are, number by number from the first.
unfoldable pub compare_rest : Hold → Hold → Ordering
compare_rest h g = slice_cmp nat_cmp (rest_of_key h) (rest_of_key g)

unfoldable pub compare : Hold → Hold → Ordering
compare h g = slice_cmp nat_cmp (key h) (key g)

abbrev pub Precedes : Hold → Hold → Type 0
Precedes h g = compare h g ≡ Ordering.Less

-- Each hold precedes all those behind it.
abbrev pub Rises : List Hold → Type 0
Rises [] = Unit {0}
Rises (h ∷ hs) = All (Precedes h) hs × Rises hs

-- The hold is not there, and belongs at the place: those before it precede the hold, and the hold
-- precedes the others.
pub record IsGap (holds : List Hold) (h : Hold) (place : ℕ) : Type 0 where
  pub within : place ≤ length holds
  pub front : All (λ g. Precedes g h) (take place holds)
  pub back : All (Precedes h) (drop place holds)

-- Where the hold stands, or else where it belongs.
abbrev pub IsPlace : List Hold → Hold → Result ℕ ℕ → Type 0
IsPlace holds h place = MatchResult place (λ i. (i < length holds) × HoldsAt (λ g. g ≡ h) holds i)
    (IsGap holds h)
