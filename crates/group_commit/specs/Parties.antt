-- Parties, each with a number of its own, that stand with the seats of a table: each with one seat.
use Rattle.std.specs.Prelude.{◌≡◌, ℕ, ◌⊎◌, List, [], ◌∷◌}

-- it is one of these
abbrev pub Among : {P : Type 0} → P → List P → Type 0
Among p [] = ⊥
Among p (q ∷ qs) = (p ≡ q) ⊎ Among p qs

module _ {P : Type 0} (number : P → ℕ) where
  -- one of these has the number
  abbrev pub Has : ℕ → List P → Type 0
  Has n [] = ⊥
  Has n (q ∷ qs) = (number q ≡ n) ⊎ Has n qs

  -- no two have one number
  abbrev pub Distinct : List P → Type 0
  Distinct [] = Unit {0}
  Distinct (q ∷ qs) = (Has (number q) qs → ⊥) × Distinct qs

  -- the parties of a seat have numbers of their own, it is the seat of each, and of each the fact
  -- holds
  pub record Sit (fact : P → Type 0) (seat_of : ℕ → ℕ) (seat : ℕ) (parties : List P) : Type 0 where
    pub apart : Distinct parties
    pub each : (p : P) → Among p parties → (seat_of (number p) ≡ seat) × fact p

abbrev pub rest : {P : Type 0} → List P → List P
rest [] = []
rest (p ∷ ps) = ps

abbrev pub first : {P : Type 0} → List P → List P
first [] = []
first (p ∷ ps) = p ∷ []
