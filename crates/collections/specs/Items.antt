-- A list of pairs in order, seen as a bag.
use Rattle.std.specs.Prelude.{◌≡◌, ℕ, false, List, [], ◌∷◌, length}
use Rattle.std.specs.Ordering.{is_lt}
use Rattle.std.specs.List.{AllByRecursion}
use Rattle.std.specs.FinMap.{empty}
use Rattle.calls.specs.Bags.{Bag, pair_cmp, add}

-- The bag of a list of pairs.
abbrev pub bag_from : List (ℕ × ℕ) → Bag
bag_from [] = empty
bag_from (x ∷ xs) = add (bag_from xs) x

-- No pair is less than one before it.
abbrev pub IsRising : List (ℕ × ℕ) → Type 0
IsRising [] = Unit {0}
IsRising (x ∷ xs) = AllByRecursion (λ y. is_lt (pair_cmp y x) ≡ false) xs × IsRising xs

-- The pairs are those of the bag, in order.
pub record ListsBag (xs : List (ℕ × ℕ)) (b : Bag) : Type 0 where
  pub rising : IsRising xs
  pub same : bag_from xs ≡ b

-- The bag has so many pairs, each as often as it is there.
abbrev pub IsSizeOf : ℕ → Bag → Type 0
IsSizeOf n b = (xs : List (ℕ × ℕ)) → bag_from xs ≡ b → n ≡ length xs
