-- A list of pairs in order.
use Rattle.std.proofs.Common.{◌≡◌, ℕ, zero, suc, ◌+◌, ◌<◌, false, List, [], ◌∷◌, length, get_or}
use Rattle.std.proofs.Common.{subst, arith}
use Rattle.std.proofs.lemmas.List.MinMax.{ranks_by}
use Rattle.std.proofs.lemmas.List.Sorted.{sorted_far}
use Rattle.std.specs.List.{AllByRecursion}
use Rattle.std.specs.List.Sorted.{IsSortedBy}
use Rattle.std.specs.Ordering.{is_lt}
use Rattle.calls.specs.Bags.{pair_cmp}
use Rattle.calls.proofs.BagPoints.{pair_cmp_total}
use Rattle.collections.specs.Items.{IsRising}

from_places : {X : Type 0} (P : X → Type 0) (xs : List X) →
    ((k : ℕ) (d : X) → k < length xs → P (get_or xs k d)) → AllByRecursion P xs
from_places P [] h = tt
from_places P (x ∷ xs) h = (
  h zero x (omega arith),
  from_places P xs (λ k d l. h (suc k) d (omega arith)),
)

rest : (x : ℕ × ℕ) (xs : List (ℕ × ℕ)) (k : ℕ) (d : ℕ × ℕ) →
    is_lt (pair_cmp (get_or (x ∷ xs) (suc k + 1) d) (get_or (x ∷ xs) (suc k) d)) ≡ false →
    is_lt (pair_cmp (get_or xs (k + 1) d) (get_or xs k d)) ≡ false
rest x xs k d h = let e : suc k + 1 ≡ suc (k + 1) = omega arith in
    subst (λ n. is_lt (pair_cmp (get_or (x ∷ xs) n d) (get_or xs k d)) ≡ false) e h

pub rising_from : (xs : List (ℕ × ℕ)) → IsSortedBy (λ x y. is_lt (pair_cmp x y)) xs → IsRising xs
rising_from [] up = tt
rising_from (x ∷ xs) up = (
  from_places (λ y. is_lt (pair_cmp y x) ≡ false) xs (λ k d l.
      sorted_far (λ x y. is_lt (pair_cmp x y)) (ranks_by pair_cmp_total (λ x. x)) (x ∷ xs) up 0
      (suc k) d
      (omega arith) (omega arith)),
  rising_from xs (λ k d low l. rest x xs k d (up (suc k) d (omega arith) (omega arith))),
)
