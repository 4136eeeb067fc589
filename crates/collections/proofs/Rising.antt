-- Numbers that rise, and the first that is not among them.
use Rattle.std.proofs.Common.{◌≡◌, ℕ, ◌+◌, ◌<◌, ◌≤◌, ◌||◌, Bool, false, nat_eq, List, [], ◌∷◌, refl}
use Rattle.std.proofs.Common.{sym, ◌∙◌, ap, subst, arith, ne_eqb}
use Rattle.std.specs.List.{list_any, AllByRecursion}
use Rattle.std.specs.List.Sorted.{IsStrictlySortedBy}
use Rattle.std.specs.declared.cmp.Ordering.{Ordering}
use Rattle.std.specs.Ordering.{nat_cmp}
use Rattle.std.specs.Cmp.{ranked}

-- The numbers rise, from n on.
abbrev pub RisesFrom : ℕ → List ℕ → Type 0
RisesFrom n [] = Unit {0}
RisesFrom n (x ∷ xs) = (n ≤ x) × RisesFrom (x + 1) xs

-- q is among the numbers.
abbrev pub is_among : List ℕ → ℕ → Bool
is_among ks q = list_any (λ y. nat_eq y q) ks

above : (x : ℕ) (ks : List ℕ) → AllByRecursion (λ y. nat_cmp x y ≡ Ordering.Less) ks →
    AllByRecursion (λ y. x + 1 ≤ y) ks
above x [] a = tt
above x (y ∷ ks) a = (
  let l : x < y = ranked x y Ordering.Less (sym a.0) in
      omega arith,
  above x ks a.1,
)

rises : (n : ℕ) (ks : List ℕ) → IsStrictlySortedBy nat_cmp ks → AllByRecursion (λ y. n ≤ y) ks →
    RisesFrom n ks
unfolding IsStrictlySortedBy
rises n [] s a = tt
rises n (x ∷ ks) s a = (a.0, rises (x + 1) ks s.1 (above x ks s.0))

from_zero : (ks : List ℕ) → AllByRecursion (λ y. 0 ≤ y) ks
from_zero [] = tt
from_zero (x ∷ ks) = (omega arith, from_zero ks)

pub rises-sorted : (ks : List ℕ) → IsStrictlySortedBy nat_cmp ks → RisesFrom 0 ks
rises-sorted ks s = rises 0 ks s (from_zero ks)

absent : (n q : ℕ) (ks : List ℕ) → RisesFrom n ks → q < n → is_among ks q ≡ false
absent n q [] r l = refl
absent n q (x ∷ ks) r l = ap (λ b. b || is_among ks q) (ne_eqb x q (λ e. omega arith)) ∙
    absent (x + 1) q ks r.1 (omega arith)

module _ (ks : List ℕ) (x n : ℕ) (rest : List ℕ) (is : ks ≡ x ∷ rest) (r : RisesFrom n ks) where
  rises_x : RisesFrom n (x ∷ rest)
  rises_x = subst (RisesFrom n) is r

  -- the first is not n
  pub gap_at : (x ≡ n → ⊥) → is_among ks n ≡ false
  gap_at differ = ap (λ l. is_among l n) is ∙
      absent (n + 1) n (x ∷ rest) (let l = rises_x.0 in omega arith, rises_x.1) (omega arith)

  pub rises_next : x ≡ n → RisesFrom (n + 1) rest
  rises_next same = subst (λ y. RisesFrom (y + 1) rest) same rises_x.1

  pub among_next : (q : ℕ) → x ≡ n → n + 1 ≤ q → is_among ks q ≡ is_among rest q
  among_next q same l = ap (λ l. is_among l q) is ∙
      ap (λ b. b || is_among rest q) (ne_eqb x q (λ e. omega arith))
