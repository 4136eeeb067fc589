-- The parts of a list: what holds of all of it holds of each, and what stands at a place.
use Rattle.std.proofs.Common.{◌≡◌, ◌∙◌, ℕ, suc, ◌<◌, List, [], ◌∷◌, ◌++◌, length, get_or, take}
use Rattle.std.proofs.Common.{drop, take-append-drop, sym, ap, ⊎_elim, arith}
use Rattle.std.specs.List.{All, Contains}
use Rattle.std.proofs.Math.Seq.{drop-cons}
use Rattle.std.proofs.lemmas.List.Elements.{All-weaker, All-contains, All-contains_itself}
use Rattle.std.proofs.lemmas.List.Elements.{Contains-append_left, Contains-append_right}
use Rattle.std.proofs.lemmas.List.Elements.{Contains-push_cases}

module _ {X : Type 0} (P : X → Type 0) where
  pub All-left : (xs ys : List X) → All P (xs ++ ys) → All P xs
  All-left xs ys all = All-weaker (Contains xs) P
      (λ x there. All-contains P (xs ++ ys) x all (Contains-append_left xs ys x there)) xs
      (All-contains_itself xs)

  pub All-right : (xs ys : List X) → All P (xs ++ ys) → All P ys
  All-right xs ys all = All-weaker (Contains ys) P
      (λ x there. All-contains P (xs ++ ys) x all (Contains-append_right xs ys x there)) ys
      (All-contains_itself ys)

module _ {X : Type 0} where
  -- a list of one has that one alone
  pub only : (x y : X) → Contains (x ∷ []) y → x ≡ y
  only x y h = ⊎_elim (λ none. let lt = none.1 in absurd (omega arith)) (λ same. same)
      (Contains-push_cases [] x y h)

  -- the list around a place
  pub around : (xs : List X) (i : ℕ) (x : X) → i < length xs → x ≡ get_or xs i x →
      take i xs ++ x ∷ drop (suc i) xs ≡ xs
  around xs i x lt at =
      ap (λ l. take i xs ++ l)
      (ap (λ y. y ∷ drop (suc i) xs) at ∙ sym (drop-cons xs i x lt))
      ∙ take-append-drop i xs
