-- Numbers of bytes, as people write them.
use Rattle.std.specs.Prelude.{◌≡◌, ◌⊎◌, ◌++◌, ◌*◌, ◌^◌, ℕ, List, [], codes}
use Rattle.std.specs.Fmt.{decimal}

-- so many bytes have these letters: none, or K, M or G
abbrev pub IsUnit : (letters : List ℕ) (bytes : ℕ) → Type 0
IsUnit letters bytes =
    ((letters ≡ []) × (bytes ≡ 1)) ⊎
    ((letters ≡ codes "K") × (bytes ≡ 2 ^ 10)) ⊎
    ((letters ≡ codes "M") × (bytes ≡ 2 ^ 20)) ⊎
    ((letters ≡ codes "G") × (bytes ≡ 2 ^ 30))

-- The text is a number, with no sign and no zero in front, and its unit: so many bytes in all.
pub record IsSizeOf (size : ℕ) (text : List ℕ) : Type 0 where
  pub count : ℕ
  pub letters : List ℕ
  pub unit : ℕ
  pub is_unit : IsUnit letters unit
  pub written : text ≡ decimal count ++ letters
  pub bytes : size ≡ count * unit
