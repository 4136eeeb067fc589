-- The bag of the holders of a heap, and how many are marked.
use Rattle.std.proofs.Common.{◌≡◌, ℕ, zero, suc, ◌+◌, ◌<◌, ◌≤◌, ◌⊎◌, Bool, true, false, cond, not}
use Rattle.std.proofs.Common.{List, [], ◌∷◌, map, length, get_or, set, refl, sym, ◌∙◌, ap, subst}
use Rattle.std.proofs.Common.{arith, ⊎_elim, inl, inr, true≢false, IsPermutation}
use Rattle.std.proofs.lemmas.Bool.{cases_lt}
use Rattle.std.proofs.lemmas.List.{get_or_default}
use Rattle.std.proofs.lemmas.List.Sorted.{sum_by-IsPermutation, length_permutation}
use Rattle.std.proofs.lemmas.List.Sums.{sum_by-cons, sum_by-set}
use Rattle.std.specs.List.{filter, sum_by}
use Rattle.std.specs.FinMap.{get-empty}
use Rattle.std.specs.Ordering.{nat_cmp, ordering_then, is_lt}
use Rattle.std.specs.Cmp.{nat_cmp_is}
use Rattle.std.specs.declared.cmp.Ordering.{Ordering}
use Rattle.calls.specs.Bags.{Bag, pair_cmp, copies_of, copies, add, take_out}
use Rattle.calls.specs.Queues.{IsLeast, IsEmpty}
use Rattle.calls.proofs.BagPoints.{pair_cases, copies-add, copies-add_other, same_bag}
use Rattle.calls.proofs.QueueLaws.{add_add, add_take_out}
use Rattle.collections.specs.declared.heap.Holder.{Holder}
use Rattle.collections.specs.Holders.{pair_of, live, bag_of, marks_of, live_pairs, IsHeap}
use Rattle.collections.specs.Holders.{IsLiveAt, IsCopyAt, HasNoCopy, AreKept, HasMarkedRoot}
use Rattle.collections.specs.Holders.{IsWithoutRoot}
use Rattle.collections.specs.Items.{bag_from}
use Rattle.collections.proofs.Sifts.{root_least}

-- whether the pairs are the same, as a number
abbrev as_number : {P Q : Type 0} → P ⊎ Q → ℕ
as_number (inl p) = 1
as_number (inr q) = 0

-- 1 where the pair is w
abbrev one_of : ℕ × ℕ → ℕ × ℕ → ℕ
one_of w x = as_number (pair_cases w x)

added : (b : Bag) (x w : ℕ × ℕ) (s : (w ≡ x) ⊎ (w ≡ x → ⊥)) →
    copies (add b x) w ≡ as_number s + copies b w
added b x w (inl e) = let h = copies-add b x w e in omega arith
added b x w (inr n) = let h = copies-add_other b x w n in omega arith

-- A bag that counts each element of a list alike does not depend on their order.
module _ {X : Type 0} (bag : List X → Bag) (f : ℕ × ℕ → X → ℕ)
    (counts : (xs : List X) (w : ℕ × ℕ) → copies (bag xs) w ≡ sum_by (f w) xs) where
  reordered : (xs ys : List X) → IsPermutation xs ys → bag ys ≡ bag xs
  reordered xs ys p = same_bag (bag ys) (bag xs) (λ w.
      counts ys w ∙ sum_by-IsPermutation (f w) xs ys p ∙ sym (counts xs w))

counts_pairs : (xs : List (ℕ × ℕ)) (w : ℕ × ℕ) → copies (bag_from xs) w ≡ sum_by (one_of w) xs
counts_pairs [] w = ap copies_of (get-empty pair_cmp w)
counts_pairs (x ∷ xs) w = added (bag_from xs) x w (pair_cases w x) ∙
    ap (λ n. one_of w x + n) (counts_pairs xs w) ∙ sym (sum_by-cons (one_of w) x xs)

pub bag_from-reordered : (xs ys : List (ℕ × ℕ)) → IsPermutation xs ys → bag_from ys ≡ bag_from xs
bag_from-reordered = reordered bag_from one_of counts_pairs

-- 1 where the holder is a copy of w that is not marked
abbrev live_one : ℕ × ℕ → Holder → ℕ
live_one w h = cond h.marked 0 (one_of w (pair_of h))

copies_with : (m : Bool) (b : Bag) (x w : ℕ × ℕ) →
    copies (cond m b (add b x)) w ≡ cond m 0 (one_of w x) + copies b w
copies_with true b x w = omega arith
copies_with false b x w = added b x w (pair_cases w x)

counts_holders : (hs : List Holder) (w : ℕ × ℕ) → copies (bag_of hs) w ≡ sum_by (live_one w) hs
counts_holders [] w = ap copies_of (get-empty pair_cmp w)
counts_holders (h ∷ hs) w = copies_with h.marked (bag_of hs) (pair_of h) w ∙
    ap (λ n. live_one w h + n) (counts_holders hs w) ∙ sym (sum_by-cons (live_one w) h hs)

pub bag_of-reordered : (hs ks : List Holder) → IsPermutation hs ks → bag_of ks ≡ bag_of hs
bag_of-reordered = reordered bag_of live_one counts_holders

pub marks_of-reordered : (hs ks : List Holder) → IsPermutation hs ks → marks_of ks ≡ marks_of hs
marks_of-reordered hs ks p = sum_by-IsPermutation (λ h. cond h.marked 1 0) hs ks p

-- a holder before others, by whether it is marked
bag_of-cons : (m : Bool) (h : Holder) (hs : List Holder) → h.marked ≡ m →
    bag_of (h ∷ hs) ≡ cond m (bag_of hs) (add (bag_of hs) (pair_of h))
bag_of-cons m h hs e = ap (λ n. cond n (bag_of hs) (add (bag_of hs) (pair_of h))) e

marks_of-cons : (m : Bool) (h : Holder) (hs : List Holder) → h.marked ≡ m →
    marks_of (h ∷ hs) ≡ cond m 1 0 + marks_of hs
marks_of-cons m h hs e = sum_by-cons (λ h. cond h.marked 1 0) h hs ∙
    ap (λ n. cond n 1 0 + marks_of hs) e

-- A holder that is marked leaves the bag.
abbrev pub marked_at : List Holder → ℕ → List Holder
marked_at hs k = set hs k (record (get_or hs k (live 0 0)) { marked = true })

swapped : (m : Bool) (b : Bag) (x w : ℕ × ℕ) →
    cond m (add b w) (add (add b w) x) ≡ add (cond m b (add b x)) w
swapped true b x w = refl
swapped false b x w = add_add b w x

with_mark : (hs : List Holder) (k p g : ℕ) → k < length hs →
    get_or hs k (live p g) ≡ live p g → bag_of hs ≡ add (bag_of (marked_at hs k)) (p, g)
with_mark [] k p g l e = absurd (omega arith)
with_mark (h ∷ hs) zero p g l e = ap (λ x. bag_of (x ∷ hs)) e
with_mark (h ∷ hs) (suc k) p g l e =
    ap (λ b. cond h.marked b (add b (pair_of h))) (with_mark hs k p g (omega arith) e) ∙
    swapped h.marked (bag_of (marked_at hs k)) (pair_of h) (p, g)

pub bag_of-marked : (hs : List Holder) (k p g : ℕ) → IsCopyAt hs k p g →
    bag_of (marked_at hs k) ≡ take_out (bag_of hs) (p, g)
bag_of-marked hs k p g at = add_take_out (bag_of (marked_at hs k)) (p, g) ∙
    ap (λ b. take_out b (p, g)) (sym (with_mark hs k p g at.within (at.there (live p g))))

pub marks_of-marked : (hs : List Holder) (k p g : ℕ) → IsCopyAt hs k p g →
    marks_of (marked_at hs k) ≡ marks_of hs + 1
marks_of-marked hs k p g at =
    let s = sum_by-set (λ (h : Holder). cond h.marked 1 0) hs k
    (record (get_or hs k (live 0 0)) { marked = true }) (live p g) at.within in
    let e : ◌≡◌ {A = ℕ} (cond (get_or hs k (live p g)).marked 1 0) 0 =
    ap (λ (h : Holder). cond h.marked 1 0) (at.there (live p g)) in omega arith

pub has_copy : (hs : List Holder) (k p g : ℕ) → IsCopyAt hs k p g → 0 < copies (bag_of hs) (p, g)
has_copy hs k p g at =
    let e = ap (λ b. copies b (p, g)) (with_mark hs k p g at.within (at.there (live p g))) ∙
    copies-add (bag_of (marked_at hs k)) (p, g) (p, g) refl in omega arith

-- A pair of which no copy is there.
is_live : (h : Holder) (p g : ℕ) → h.marked ≡ false → ◌≡◌ {A = ℕ × ℕ} (p, g) (pair_of h) →
    h ≡ live p g
is_live h p g m e = λ i. record { priority = (sym e i).0; tag = (sym e i).1; marked = m i }

unseen : (m : Bool) (h : Holder) (b : Bag) (p g : ℕ) → h.marked ≡ m → (h ≡ live p g → ⊥) →
    copies (cond m b (add b (pair_of h))) (p, g) ≡ copies b (p, g)
unseen true h b p g e n = refl
unseen false h b p g e n =
    copies-add_other b (pair_of h) (p, g) (λ same. n (is_live h p g e same))

pub no_copy : (hs : List Holder) (p g : ℕ) → HasNoCopy hs p g → copies (bag_of hs) (p, g) ≡ 0
no_copy [] p g n = ap copies_of (get-empty pair_cmp (p, g))
no_copy (h ∷ hs) p g n =
    unseen h.marked h (bag_of hs) p g refl (n zero h (omega arith)) ∙
    no_copy hs p g (λ k d l. n (suc k) d (omega arith))

lower : (a h p g : ℕ) → a < p → pair_cmp (a, h) (p, g) ≡ Ordering.Less
lower a h p g l = ap (λ o. ordering_then o (nat_cmp h g)) (sym (nat_cmp_is a p Ordering.Less l))

earlier : (p h g : ℕ) → h < g → pair_cmp (p, h) (p, g) ≡ Ordering.Less
earlier p h g l = ap (λ o. ordering_then o (nat_cmp h g))
    (sym (nat_cmp_is p p Ordering.Equal refl)) ∙ sym (nat_cmp_is h g Ordering.Less l)

module _ (hs : List Holder) (p g : ℕ) (heap : IsHeap hs) (at : IsCopyAt hs 0 p g) where
  -- no pair less than that of the root
  none_before : (a h : ℕ) → pair_cmp (a, h) (p, g) ≡ Ordering.Less → HasNoCopy hs a h
  none_before a h less k d l e = true≢false
      (ap is_lt (sym less ∙ ap (λ x. pair_cmp (a, h) (pair_of x)) (sym (at.there d)) ∙
      ap (λ x. pair_cmp (pair_of x) (pair_of (get_or hs 0 d))) (sym e)) ∙
      root_least hs k d heap l)

  pub root_is_least : IsLeast (bag_of hs) p g
  root_is_least = record {
    there = has_copy hs 0 p g at;
    no_lower = λ a h l. no_copy hs a h (none_before a h (lower a h p g l));
    no_earlier = λ h l. no_copy hs p h (none_before p h (earlier p h g l));
  }

equal : (a b : ℕ) → (a < b → ⊥) → (b < a → ⊥) → a ≡ b
equal a b l m = ⊎_elim (λ h. absurd (l h))
    (λ (h : b ≤ a). ⊎_elim (λ i. absurd (m i)) (λ (i : a ≤ b). omega arith) (cases_lt b a))
    (cases_lt a b)

module _ (b : Bag) where
  not_lower : (p g q h : ℕ) → IsLeast b p g → IsLeast b q h → p < q → ⊥
  not_lower p g q h x y l = let n = y.no_lower p g l in let t = x.there in omega arith

  not_earlier : (p g h : ℕ) → IsLeast b p g → IsLeast b p h → g < h → ⊥
  not_earlier p g h x y l = let n = y.no_earlier g l in let t = x.there in omega arith

  -- Two pairs that are least are one.
  pub one_least : (p g q h : ℕ) → IsLeast b p g → IsLeast b q h → ◌≡◌ {A = ℕ × ℕ} (p, g) (q, h)
  one_least p g q h x y =
      let e = equal p q (not_lower p g q h x y) (not_lower q h p g y x) in
      let z = subst (λ k. IsLeast b k h) (sym e) y in
      let f = equal g h (not_earlier p g h x z) (not_earlier p h g z x) in
      λ i. (e i, f i)

-- What is left where all that are marked go.
abbrev kept : List Holder → List Holder
kept hs = filter (λ h. not h.marked) hs

keeps : (m : Bool) (h : Holder) (hs ks : List Holder) → h.marked ≡ m → bag_of ks ≡ bag_of hs →
    bag_of (cond (not m) (h ∷ ks) ks) ≡ cond m (bag_of hs) (add (bag_of hs) (pair_of h))
keeps true h hs ks e same = same
keeps false h hs ks e same = bag_of-cons false h ks e ∙ ap (λ b. add b (pair_of h)) same

pub bag_of-kept : (hs : List Holder) → bag_of (kept hs) ≡ bag_of hs
bag_of-kept [] = refl
bag_of-kept (h ∷ hs) = keeps h.marked h hs (kept hs) refl (bag_of-kept hs)

no_mark : (m : Bool) (h : Holder) (ks : List Holder) → h.marked ≡ m → marks_of ks ≡ 0 →
    marks_of (cond (not m) (h ∷ ks) ks) ≡ 0
no_mark true h ks e none = none
no_mark false h ks e none = let n = marks_of-cons false h ks e in omega arith

pub marks_of-kept : (hs : List Holder) → marks_of (kept hs) ≡ 0
marks_of-kept [] = refl
marks_of-kept (h ∷ hs) = no_mark h.marked h (kept hs) refl (marks_of-kept hs)

-- where no holder is marked
not_marked : (m : Bool) (h : Holder) (hs : List Holder) → h.marked ≡ m → marks_of (h ∷ hs) ≡ 0 →
    (h.marked ≡ false) × (marks_of hs ≡ 0)
not_marked true h hs e none = absurd (let n = marks_of-cons true h hs e in omega arith)
not_marked false h hs e none = (e, let n = marks_of-cons false h hs e in omega arith)

pub none_marked : (hs : List Holder) (k : ℕ) → marks_of hs ≡ 0 → IsLiveAt hs k
none_marked [] k none d l = absurd (omega arith)
none_marked (h ∷ hs) zero none d l = (not_marked h.marked h hs refl none).0
none_marked (h ∷ hs) (suc k) none d l =
    none_marked hs k (not_marked h.marked h hs refl none).1 d (omega arith)

-- The pairs that are not marked, in a list.
listed : (m : Bool) (h : Holder) (ks : List Holder) (b : Bag) → bag_from (map pair_of ks) ≡ b →
    bag_from (map pair_of (cond (not m) (h ∷ ks) ks)) ≡ cond m b (add b (pair_of h))
listed true h ks b e = e
listed false h ks b e = ap (λ b. add b (pair_of h)) e

pub bag_from-live_pairs : (hs : List Holder) → bag_from (live_pairs hs) ≡ bag_of hs
bag_from-live_pairs [] = refl
bag_from-live_pairs (h ∷ hs) =
    listed h.marked h (kept hs) (bag_of hs) (bag_from-live_pairs hs)

-- The bag of no holder is empty.
pub is_empty : (hs : List Holder) → length hs ≡ 0 → IsEmpty (bag_of hs)
is_empty [] e p g _ _ = ap copies_of (get-empty pair_cmp (p, g))
is_empty (h ∷ hs) e p g _ _ = absurd (omega arith)

pub not_empty : (hs : List Holder) → (IsEmpty (bag_of hs) → ⊥) → 0 < length hs
not_empty [] n = absurd (n (is_empty [] refl))
not_empty (h ∷ hs) n = omega arith

-- A holder that is not marked is a copy of its pair.
pub copy_at : (hs : List Holder) (k : ℕ) (d : Holder) → k < length hs → IsLiveAt hs k →
    IsCopyAt hs k (get_or hs k d).priority (get_or hs k d).tag
copy_at hs k d l alive = record {
  within = l;
  there = λ e. get_or_default hs k e d l ∙
      (λ i. record (get_or hs k d) { marked = alive d l i });
}

-- one more, not marked
pub kept_more : (hs ks : List Holder) (m p g : ℕ) → IsPermutation (live p g ∷ hs) ks → IsHeap ks →
    (IsLiveAt hs 0 → IsLiveAt ks 0) → AreKept hs m → AreKept ks m
kept_more hs ks m p g more heap root before =
    let a = marks_of-reordered (live p g ∷ hs) ks more in
    let b = marks_of-cons false (live p g) hs refl in
    let l = length_permutation (live p g ∷ hs) ks more in
    record {
      heap = heap;
      root = root before.root;
      marks = let h = before.marks in omega arith;
      fewer = let h = before.fewer in omega arith;
    }

module _ (hs ks : List Holder) (d : Holder) (others : IsWithoutRoot hs ks) where
  -- one fewer, marked
  pub marked_out : HasMarkedRoot hs →
      (bag_of ks ≡ bag_of hs) × (marks_of hs ≡ marks_of ks + 1) × (length hs ≡ length ks + 1)
  marked_out first = (
    sym (bag_of-cons true (get_or hs 0 d) ks (first.is_marked d)) ∙
        bag_of-reordered hs (get_or hs 0 d ∷ ks) (others d),
    (let a = marks_of-cons true (get_or hs 0 d) ks (first.is_marked d) in
        let b = marks_of-reordered hs (get_or hs 0 d ∷ ks) (others d) in omega arith),
    (let l = length_permutation hs (get_or hs 0 d ∷ ks) (others d) in omega arith),
  )

  -- one fewer, not marked
  pub live_out : IsLiveAt hs 0 →
      (bag_of hs ≡ add (bag_of ks) (pair_of (get_or hs 0 d))) × (marks_of hs ≡ marks_of ks)
  live_out first =
      let l = length_permutation hs (get_or hs 0 d ∷ ks) (others d) in
      let m = first d (omega arith) in (
        sym (bag_of-reordered hs (get_or hs 0 d ∷ ks) (others d)) ∙
            bag_of-cons false (get_or hs 0 d) ks m,
        (let a = marks_of-cons false (get_or hs 0 d) ks m in
            let b = marks_of-reordered hs (get_or hs 0 d ∷ ks) (others d) in omega arith),
      )
