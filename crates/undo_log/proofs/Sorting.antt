-- What all slots have, sorted by stamps, is what is merged.
use Rattle.std.proofs.Common.{◌≡◌, ℕ, suc, ◌<◌, ◌+◌, ◌==◌, false, ⊎_elim, Option}
use Rattle.std.proofs.Common.{Some, None, List, [], ◌∷◌, ◌++◌, map, get_or, length, refl, sym, ap}
use Rattle.std.proofs.Common.{subst, ◌∙◌, arith, eqb, inl, inr}
use Rattle.std.specs.declared.cmp.Ordering.TheVariants.{Less}
use Rattle.std.specs.Ordering.{nat_cmp}
use Rattle.std.specs.Cmp.{nat_eq_equiv}
use Rattle.std.specs.List.{IsDistinct, Contains, flat_map}
use Rattle.std.specs.List.Sorted.{IsPermutation, IsNonDecreasing, IsNonDecreasingBy}
use Rattle.std.specs.List.Sorted.{IsStrictlySortedBy}
use Rattle.std.proofs.lemmas.Bool.{ne_eqb}
use Rattle.std.proofs.lemmas.List.{map-append, length-map, get_or-map}
use Rattle.std.proofs.lemmas.List.Sorted.{IsPermutation-map, IsPermutation-sym}
use Rattle.std.proofs.lemmas.List.Sorted.{Contains-permutation}
use Rattle.std.proofs.lemmas.Map.Keys.{IsDistinct-cons, IsDistinct-head, IsDistinct-tail}
use Rattle.std.proofs.lemmas.Map.Keys.{IsDistinct-IsPermutation, IsStrictlyIncreasing-from_distinct}
use Rattle.std.proofs.lemmas.Map.Keys.{sorted_from_strictly_increasing, sorted_head, sorted_tail}
use Rattle.slab.specs.Slab.{Slab, entries_from, entries}
use Rattle.slab.proofs.SlabLemmas.{Contains-cons, Contains-cons_cases}
use Rattle.undo_log.specs.declared.live.Transaction.{Transaction}
use Rattle.undo_log.specs.Logs.{EachOnce}
use Rattle.undo_log.specs.Stamps.{Mark, marks, all_marks, merged, marks_of}
use Rattle.undo_log.proofs.Rising.{In, in_either, in_filter, in_map, map_in, all_in}
use Rattle.undo_log.proofs.Rising.{in_all, Rises, one_value, rises_filter}
use Rattle.undo_log.proofs.Slots.{Once, once_rest}
use Rattle.undo_log.proofs.Marks.{Each, merged_is, merged_rises, in_marks, number_of}

-- ---- what the slots have, one after another

-- The marks of these transactions.
abbrev pub tell : List (ℕ × Transaction) → List Mark
tell ts = flat_map (λ t. marks t.1) ts

tell_from : (k : ℕ) (slots : List (Option Transaction)) →
    tell (entries_from k slots) ≡ all_marks slots
tell_from k [] = refl
tell_from k (None ∷ rest) = tell_from (k + 1) rest
tell_from k (Some t ∷ rest) = ap (λ l. marks t ++ l) (tell_from (k + 1) rest)

pub tell_all : (s : Slab Transaction) → tell (entries s) ≡ all_marks s.slots
tell_all s = tell_from 0 s.slots

-- ---- elements by places

module _ {X : Type 0} where
  contains_in : (x : X) (xs : List X) → In x xs → Contains xs x
  contains_in x [] i = absurd i
  contains_in x (y ∷ xs) i =
      ⊎_elim (λ (here : y ≡ x). (0, omega arith, here))
      (λ (later : In x xs). Contains-cons y x xs (contains_in x xs later)) i

  in_contains : (x : X) (xs : List X) → Contains xs x → In x xs
  in_contains x [] i = let lt = i.1 in absurd (omega arith)
  in_contains x (y ∷ xs) i =
      ⊎_elim (λ (here : y ≡ x). inl here)
      (λ (later : Contains xs x). inr (in_contains x xs later))
      (Contains-cons_cases y x xs i)

-- ---- keys that differ

abbrev keys : List Mark → List ℕ
keys ms = map (λ m. m.0) ms

distinct_rising : (ms : List Mark) → Rises ms → IsDistinct eqb (keys ms)
unfolding IsDistinct
distinct_rising [] r = tt
distinct_rising (m ∷ ms) r =
    IsDistinct-cons eqb m.0 (keys ms) (in_all (λ k. eqb m.0 k ≡ false) (keys ms)
    (λ k i. let d = in_map (λ (v : Mark). v.0) k ms i in
    let over = all_in (λ v. m.0 < v.0) ms r.0 d.0 d.1 in
    let at = d.2 in
    ne_eqb m.0 k (λ same. omega arith))) (distinct_rising ms r.1)

distinct_append : (xs ys : List ℕ) → IsDistinct eqb xs → IsDistinct eqb ys →
    ((x : ℕ) → In x xs → In x ys → ⊥) → IsDistinct eqb (xs ++ ys)
distinct_append [] ys d e apart = e
distinct_append (x ∷ xs) ys d e apart =
    IsDistinct-cons eqb x (xs ++ ys) (in_all (λ y. eqb x y ≡ false) (xs ++ ys)
    (λ y i. ⊎_elim
    (λ (left : In y xs). all_in (λ z. eqb x z ≡ false) xs (IsDistinct-head eqb x xs d) y left)
    (λ (right : In y ys). ne_eqb x y
    (λ same. apart x (inl refl) (subst (λ z. In z ys) (sym same) right)))
    (in_either y xs ys i)))
    (distinct_append xs ys (IsDistinct-tail eqb x xs d) e (λ z i j. apart z (inr i) j))

-- Each stamp of the slots is there once: a mark of each is in a list that rises.
module _ (all : List Mark) (rises : Rises all) where
  distinct_slots : (slots : List (Option Transaction)) → Once slots →
      ((k : ℕ) (t : Transaction) → get_or slots k None ≡ Some t →
      marks_of t.number all ≡ marks t) → IsDistinct eqb (keys (all_marks slots))
  unfolding IsDistinct
  distinct_slots [] once each = tt
  distinct_slots (None ∷ rest) once each =
      distinct_slots rest (once_rest None rest once) (λ k t h. each (suc k) t h)
  distinct_slots (Some u ∷ rest) once each =
      subst (IsDistinct eqb) (sym (map-append (λ m. m.0) (marks u) (all_marks rest)))
      (distinct_append (keys (marks u)) (keys (all_marks rest))
      (distinct_rising (marks u)
      (subst Rises (each 0 u refl) (rises_filter (λ m. m.1.0 == u.number) all rises)))
      (distinct_slots rest (once_rest (Some u) rest once) (λ k t h. each (suc k) t h))
      (λ x i j.
      let a = in_map (λ (m : Mark). m.0) x (marks u) i in
      let b = in_map (λ (m : Mark). m.0) x (all_marks rest) j in
      let r = in_marks rest b.0 b.1 in
      let first = (in_filter (λ m. m.1.0 == u.number) a.0 all
      (subst (In a.0) (sym (each 0 u refl)) a.1)).0 in
      let second = (in_filter (λ m. m.1.0 == r.1.number) b.0 all
      (subst (In b.0) (sym (each (suc r.0) r.1 r.2)) r.3)).0 in
      let same_key = a.2 ∙ sym b.2 in
      let value = one_value all rises a.0.0 a.0.1 b.0.1 first
      (subst (λ k. In (k, b.0.1) all) (sym same_key) second) in
      let number = sym (number_of u a.0 a.1) ∙ ap (λ v. v.0) value ∙ number_of r.1 b.0 r.3 in
      let no : 0 ≡ suc r.0 = once 0 (suc r.0) u r.1 refl r.2 number in
      absurd (omega arith)))

-- ---- sorted

-- what rises by places does so where it is written out
pub mapped_rises : {X : Type 0} (f : X → ℕ) (xs : List X) → IsNonDecreasingBy f xs →
    IsNonDecreasing (map f xs)
mapped_rises f [] up i j d le below = absurd (omega (arith, below))
mapped_rises f (x ∷ xs) up i j d le below =
    let size = length-map (x ∷ xs) f in
    let within : j < length (x ∷ xs) = omega arith in
    let before : i < length (x ∷ xs) = omega arith in
    let is = up i j x le within in
    let low = get_or-map f (x ∷ xs) i x d before in
    let high = get_or-map f (x ∷ xs) j x d within in
    omega arith

less : (a b : ℕ) → nat_cmp a b ≡ Less → a < b
less a b h = grind arith

rises_sorted : (ms : List Mark) → IsStrictlySortedBy nat_cmp (keys ms) → Rises ms
rises_sorted [] up = tt
rises_sorted (m ∷ ms) up = (
  in_all (λ d. m.0 < d.0) ms
      (λ d i. less m.0 d.0 (all_in (λ k. nat_cmp m.0 k ≡ Less) (keys ms)
      (sorted_head nat_cmp m.0 (keys ms) up) d.0 (map_in (λ v. v.0) d ms i))),
  rises_sorted ms (sorted_tail nat_cmp m.0 (keys ms) up),
)

pub sorted_merged : (s : Slab Transaction) → EachOnce s → Each s → (listed sorted : List Mark) →
    listed ≡ all_marks s.slots → IsPermutation listed sorted → IsNonDecreasing (keys sorted) →
    sorted ≡ merged s.slots
sorted_merged s once each listed sorted is moved up =
    let all = merged s.slots in
    let distinct = distinct_slots all (merged_rises s.slots) s.slots once each in
    let kept = IsDistinct-IsPermutation eqb nat_eq_equiv.symm (keys listed) (keys sorted)
    (IsPermutation-map (λ (m : Mark). m.0) listed sorted moved)
    (subst (λ l. IsDistinct eqb (keys l)) (sym is) distinct) in
    sym (merged_is s.slots sorted
    (rises_sorted sorted (sorted_from_strictly_increasing (keys sorted)
    (IsStrictlyIncreasing-from_distinct (keys sorted) up kept)))
    (λ m i. in_contains m sorted (Contains-permutation listed sorted m moved
    (subst (λ l. Contains l m) (sym is) (contains_in m (all_marks s.slots) i))))
    (λ m i. in_contains m (all_marks s.slots) (subst (λ l. Contains l m) is
    (Contains-permutation sorted listed m (IsPermutation-sym listed sorted moved)
    (contains_in m sorted i)))))
