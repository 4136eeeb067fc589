-- The names of collections.
use Rattle.std.specs.Prelude.{◌≡◌, ℕ, ◌≤◌, ◌⊎◌, List, length, All, ◌<◌}
use Rattle.calls.specs.declared.refusal.Refusal.{Refusal}
use Rattle.calls.specs.Limits.{max_name}

-- a small letter, a digit, or one of _ - .
abbrev pub IsNameByte : ℕ → Type 0
IsNameByte b = ((97 ≤ b) × (b ≤ 122)) ⊎ (((48 ≤ b) × (b ≤ 57)) ⊎ ((b ≡ 95) ⊎ ((b ≡ 45) ⊎ (b ≡ 46))))

-- some bytes, each of them allowed
pub record IsSpelt (name : List ℕ) : Type 0 where
  pub not_empty : 0 < length name
  pub allowed : All IsNameByte name

pub record IsName (name : List ℕ) : Type 0 where
  pub spelt : IsSpelt name
  pub short : length name ≤ max_name

-- When each refusal of a name comes, and that no other does.
abbrev pub RefusesName : List ℕ → Refusal → Type 0
RefusesName name Refusal.BadName = IsSpelt name → ⊥
RefusesName name Refusal.TooLong = IsSpelt name × (max_name < length name)
RefusesName name e = ⊥
