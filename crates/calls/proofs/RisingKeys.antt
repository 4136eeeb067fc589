-- Lists whose keys rise: one is cut at an element, gets one more, loses one, or is searched.
use Rattle.std.proofs.Common.{◌≡◌, ◌≢◌, ℕ, zero, suc, ◌+◌, ◌<◌, ◌≤◌, List, [], ◌∷◌, ◌++◌}
use Rattle.std.proofs.Common.{length, get_or, take, drop, sym, ap, subst, ⊎_elim, arith}
use Rattle.std.proofs.Common.{take-append-drop, length-take, length-drop, Result, Ok, Err}
use Rattle.std.specs.Prelude.{MatchResult}
use Rattle.std.specs.List.{All, HoldsAt, insert, remove}
use Rattle.std.specs.List.Sorted.{IsSearchInRange, IsBinarySearchResult, IsNonDecreasingBy}
use Rattle.std.specs.Ordering.{nat_cmp, ordering_index}
use Rattle.std.proofs.lemmas.Cmp.{ranked}
use Rattle.std.proofs.lemmas.Bool.{cases_order}
use Rattle.std.proofs.lemmas.Bool.Decides.{nat_tests}
use Rattle.std.proofs.lemmas.List.{get_or-take, get_or-drop}
use Rattle.std.proofs.lemmas.List.Elements.{All-append, All-cons, All-head, All-tail, All-nil}
use Rattle.std.proofs.lemmas.List.Elements.{All-weaker}
use Rattle.calls.proofs.Parts.{All-left, All-right, around}

-- A list of which this is said has elements each with a lesser key than all that follow it.
pub record IsOrder {X : Type 0} (key : X → ℕ) (Rises : List X → Type 0) : Type 0 where
  pub none : Rises []
  pub above : (x : X) (xs : List X) → Rises (x ∷ xs) → All (λ y. key x < key y) xs
  pub rest : (x : X) (xs : List X) → Rises (x ∷ xs) → Rises xs
  pub more : (x : X) (xs : List X) → All (λ y. key x < key y) xs → Rises xs → Rises (x ∷ xs)

-- The elements of l stand below x, and those of r above it.
pub record IsFork {X : Type 0} (key : X → ℕ) (Rises : List X → Type 0) (l : List X) (x : X)
    (r : List X) : Type 0 where
  pub left : Rises l
  pub right : Rises r
  pub below : All (λ y. key y < key x) l
  pub above : All (λ y. key x < key y) r

-- A key that no element has would stand at the place: lesser ones before it, and greater ones from
-- it on.
pub record IsGap {X : Type 0} (key : X → ℕ) (n : ℕ) (xs : List X) (i : ℕ) : Type 0 where
  pub within : i ≤ length xs
  pub lesser : All (λ x. key x < n) (take i xs)
  pub greater : All (λ x. n < key x) (drop i xs)

module _ {X : Type 0} {key : X → ℕ} {Rises : List X → Type 0} (order : IsOrder key Rises) where
  -- ---- parts

  front : (l r : List X) → Rises (l ++ r) → Rises l
  front [] r up = order.none
  front (x ∷ l) r up =
      order.more x l (All-left (λ y. key x < key y) l r (order.above x (l ++ r) up))
      (front l r (order.rest x (l ++ r) up))

  back : (l r : List X) → Rises (l ++ r) → Rises r
  back [] r up = up
  back (x ∷ l) r up = back l r (order.rest x (l ++ r) up)

  split : (l : List X) (x : X) (r : List X) → Rises (l ++ x ∷ r) → IsFork key Rises l x r
  split [] x r up = record {
    left = order.none;
    right = order.rest x r up;
    below = All-nil (λ y. key y < key x);
    above = order.above x r up;
  }
  split (y ∷ l) x r up =
      let far = order.above y (l ++ x ∷ r) up in
      let rest = split l x r (order.rest y (l ++ x ∷ r) up) in
      record {
        left = order.more y l (All-left (λ z. key y < key z) l (x ∷ r) far) rest.left;
        right = rest.right;
        below = All-cons (λ z. key z < key x) y l
            (All-head (λ z. key y < key z) x r (All-right (λ z. key y < key z) l (x ∷ r) far))
            rest.below;
        above = rest.above;
      }

  join : (l : List X) (x : X) (r : List X) → IsFork key Rises l x r → Rises (l ++ x ∷ r)
  join [] x r f = order.more x r f.above f.right
  join (y ∷ l) x r f =
      let behind : key y < key x = All-head (λ z. key z < key x) y l f.below in
      let far : All (λ z. key y < key z) r = All-weaker (λ z. key x < key z)
      (λ z. key y < key z) (λ z up. omega arith) r f.above in
      order.more y (l ++ x ∷ r)
      (All-append (λ z. key y < key z) l (x ∷ r) (order.above y l f.left)
      (All-cons (λ z. key y < key z) x r behind far))
      (join l x r (record {
        left = order.rest y l f.left;
        right = f.right;
        below = All-tail (λ z. key z < key x) y l f.below;
        above = f.above;
      }))

  -- the order without one of them
  without : (l : List X) (x : X) (r : List X) → Rises (l ++ x ∷ r) → Rises (l ++ r)
  without [] x r up = order.rest x r up
  without (y ∷ l) x r up =
      let far = order.above y (l ++ x ∷ r) up in
      order.more y (l ++ r)
      (All-append (λ z. key y < key z) l r (All-left (λ z. key y < key z) l (x ∷ r) far)
      (All-tail (λ z. key y < key z) x r (All-right (λ z. key y < key z) l (x ∷ r) far)))
      (without l x r (order.rest y (l ++ x ∷ r) up))

  -- the others have other keys
  pub others : (l : List X) (x : X) (r : List X) → Rises (l ++ x ∷ r) →
      All (λ y. key y ≢ key x) (l ++ r)
  others l x r up =
      let fork = split l x r up in
      All-append (λ y. key y ≢ key x) l r
      (All-weaker (λ y. key y < key x) (λ y. key y ≢ key x) (λ y less e. omega arith) l fork.below)
      (All-weaker (λ y. key x < key y) (λ y. key y ≢ key x) (λ y more e. omega arith) r fork.above)

  -- ---- places

  pub rise_at : (xs : List X) (i j : ℕ) (d : X) → Rises xs → i < j → j < length xs →
      key (get_or xs i d) < key (get_or xs j d)
  rise_at [] i j d up less lt = absurd (omega arith)
  rise_at (x ∷ xs) zero zero d up less lt = absurd (omega arith)
  rise_at (x ∷ xs) zero (suc j) d up less lt = order.above x xs up j d (omega arith)
  rise_at (x ∷ xs) (suc i) zero d up less lt = absurd (omega arith)
  rise_at (x ∷ xs) (suc i) (suc j) d up less lt =
      rise_at xs i j d (order.rest x xs up) (omega arith) (omega arith)

  pub never_fall : (xs : List X) (i j : ℕ) (d : X) → Rises xs → i ≤ j → j < length xs →
      key (get_or xs i d) ≤ key (get_or xs j d)
  never_fall xs i j d up le lt =
      ⊎_elim (λ same. let e : key (get_or xs i d) ≡ key (get_or xs j d) =
      ap (λ k. key (get_or xs k d)) same in omega arith)
      (λ rest. ⊎_elim (λ less. let a = rise_at xs i j d up less lt in omega arith)
      (λ more. absurd (omega arith)) rest)
      (cases_order i j)

  -- ---- a key with no element

  pub put : (xs : List X) (i : ℕ) (x : X) → Rises xs → IsGap key (key x) xs i →
      Rises (insert xs i x)
  put xs i x up gap =
      let parts = subst Rises (sym (take-append-drop i xs)) up in
      join (take i xs) x (drop i xs) (record {
        left = front (take i xs) (drop i xs) parts;
        right = back (take i xs) (drop i xs) parts;
        below = gap.lesser;
        above = gap.greater;
      })

  -- where a halving ends
  pub searched : (xs : List X) → Rises xs → (n : ℕ) (r : Result ℕ ℕ) →
      IsSearchInRange r (length xs) → IsBinarySearchResult (λ x. nat_cmp (key x) n) xs r →
      MatchResult r (λ i. (i < length xs) × HoldsAt (λ x. key x ≡ n) xs i) (IsGap key n xs)
  searched xs up n (Ok i) in_range equal = (in_range, λ d. ranked _ n _ (sym (equal d)))
  searched xs up n (Err i) in_range parted =
      let rise : IsNonDecreasingBy (λ x. ordering_index (nat_cmp (key x) n)) xs =
      λ i j d le lt. let least = never_fall xs i j d up le lt in grind (arith, nat_tests) in
      let both = parted rise in
      record {
        within = in_range;
        lesser = λ k d lt.
            let few = length-take i xs in
            let below : k < i = omega arith in
            rw (get_or-take i xs k d below) (ranked _ n _ (sym (both.0 k d (omega arith) below)));
        greater = λ k d lt.
            let few = length-drop i xs in
            rw (get_or-drop i xs k d)
            (ranked _ n _ (sym (both.1 (i + k) d (omega arith) (omega arith))));
      }

  -- ---- an element at its place

  module _ (xs : List X) (up : Rises xs) (i : ℕ) (x : X) (lt : i < length xs)
      (at : x ≡ get_or xs i x) where
    parts_rise : Rises (take i xs ++ x ∷ drop (suc i) xs)
    parts_rise = subst Rises (sym (around xs i x lt at)) up

    pub fork_at : IsFork key Rises (take i xs) x (drop (suc i) xs)
    fork_at = split (take i xs) x (drop (suc i) xs) parts_rise

    pub others_at : All (λ y. key y ≢ key x) (remove xs i)
    others_at = others (take i xs) x (drop (suc i) xs) parts_rise

    pub removed : Rises (remove xs i)
    removed = without (take i xs) x (drop (suc i) xs) parts_rise

-- the elements round a gap have other keys
pub none_in_gap : {X : Type 0} (key : X → ℕ) (n : ℕ) (xs : List X) (i : ℕ) → IsGap key n xs i →
    All (λ x. key x ≢ n) xs
none_in_gap key n xs i gap =
    subst (All (λ x. key x ≢ n)) (take-append-drop i xs)
    (All-append (λ x. key x ≢ n) (take i xs) (drop i xs)
    (All-weaker (λ x. key x < n) (λ x. key x ≢ n) (λ x less e. omega arith) (take i xs) gap.lesser)
    (All-weaker (λ x. n < key x) (λ x. key x ≢ n) (λ x more e. omega arith) (drop i xs)
    gap.greater))
