-- The segments in which a hold may overlap a need.
use Rattle.std.proofs.Common.{◌≡◌, ◌∙◌, ℕ, zero, suc, ◌+◌, ◌-◌, ◌<◌, ◌≤◌, List, [], ◌∷◌, ◌++◌}
use Rattle.std.proofs.Common.{Option, Some, None, Less, Greater, true, false, true≢false, length}
use Rattle.std.proofs.Common.{get_or, take, drop, take-append-drop, refl, sym, ap, subst, ⊎_elim}
use Rattle.std.proofs.Common.{arith}
use Rattle.std.specs.Cmp.{nat_cmp_is}
use Rattle.std.specs.List.{All, Contains}
use Rattle.std.specs.List.Sorted.{IsPartitionedBy, IsPartitionPoint}
use Rattle.std.specs.Ordering.{nat_cmp}
use Rattle.std.proofs.lemmas.Bool.{cases_lt, leb-true, le-leb, leb-false}
use Rattle.std.proofs.lemmas.List.{length-take}
use Rattle.std.proofs.lemmas.List.Concat.{flat_map-append}
use Rattle.std.proofs.lemmas.List.Elements.{All-nil, All-cons, All-append, All-weaker, All-get_or}
use Rattle.std.proofs.lemmas.List.Elements.{All-take, All-head, All-contains, All-contains_itself}
use Rattle.std.proofs.lemmas.List.Elements.{Contains-append_left, Contains-append_right}
use Rattle.std.proofs.lemmas.List.Elements.{Contains-append_cases}
use Rattle.calls.specs.declared.need.Need.{Need}
use Rattle.calls.proofs.Parts.{All-left}
use Rattle.abstract_locks.specs.declared.table.Hold.{Hold}
use Rattle.abstract_locks.specs.Holds.{Blocks}
use Rattle.abstract_locks.specs.Order.{compare, Precedes, Rises}
use Rattle.abstract_locks.specs.Segments.{all_holds, AreOrdered, begins_to, AreNarrow, AreInReach}
use Rattle.abstract_locks.specs.Segments.{IsLeast}
use Rattle.abstract_locks.proofs.Ordering.{by_low}
use Rattle.abstract_locks.proofs.Placing.{earlier, between_at}
use Rattle.abstract_locks.proofs.Rising.{ArePreceding, rises_left, rises_right}

-- ---- lowest keys

-- a hold has no lower key than one in front of it
low_of : (a b : Hold) → Precedes a b → a.need.low ≤ b.need.low
low_of a b before =
    ⊎_elim
    (λ (lt : b.need.low < a.need.low).
    let more : nat_cmp a.need.low b.need.low ≡ Greater =
    sym (nat_cmp_is a.need.low b.need.low Greater lt) in
    let after : Greater ≡ compare a b = by_low a b Greater more in
    let wrong : Greater ≡ Less = after ∙ before in
    cc)
    (λ (le : a.need.low ≤ b.need.low). le) (cases_lt b.need.low a.need.low)

module _ (key : ℕ) where
  begins_too : (s t : List Hold) → ArePreceding s t → 0 < length s → 0 < length t →
      begins_to key t ≡ true → begins_to key s ≡ true
  begins_too [] t between some more begins = refl
  begins_too (f ∷ fs) [] between some more begins = absurd (omega arith)
  begins_too (f ∷ fs) (g ∷ gs) between some more begins =
      let first = low_of f g (All-head (Precedes f) g gs
      (All-head (λ x. All (Precedes x) (g ∷ gs)) f fs between)) in
      let le = leb-true g.need.low key begins in
      le-leb f.need.low key (omega arith)

  -- what precedes a segment that begins at the key or below it begins there too
  low_in_front : (front s : List Hold) → ArePreceding front s → 0 < length s →
      begins_to key s ≡ true → All (λ h. h.need.low ≤ key) front
  low_in_front front [] between some begins = absurd (omega arith)
  low_in_front front (f ∷ fs) between some begins =
      All-weaker (λ x. All (Precedes x) (f ∷ fs)) (λ h. h.need.low ≤ key)
      (λ x all.
      let first = low_of x f (All-head (Precedes x) f fs all) in
      let le = leb-true f.need.low key begins in
      omega arith) front between

  -- a segment that begins behind the key stands behind it
  beyond : (s : List Hold) → Rises s → begins_to key s ≡ false → All (λ h. key < h.need.low) s
  beyond [] rises begins = absurd (true≢false begins)
  beyond (f ∷ fs) rises begins =
      let first = leb-false f.need.low key begins in
      All-cons (λ h. key < h.need.low) f fs first
      (All-weaker (Precedes f) (λ h. key < h.need.low)
      (λ x later. let more = low_of f x later in omega arith) fs rises.0)

  -- ---- the halving

  pub parted : (xs : List (List Hold)) → AreOrdered xs → IsPartitionedBy (begins_to key) xs
  parted xs ordered i j d le lt begins =
      ⊎_elim
      (λ less.
      let filled = ordered.filled (omega arith) in
      begins_too (get_or xs i d) (get_or xs j d) (earlier xs i j d less lt ordered.rise)
      (All-get_or (λ s. 0 < length s) xs i d (omega arith) filled)
      (All-get_or (λ s. 0 < length s) xs j d lt filled) begins)
      (λ more. let same : j ≡ i = omega arith in
      subst (λ k. begins_to key (get_or xs k d) ≡ true) same begins) (cases_lt i j)

  low_up_to : (xs : List (List Hold)) (p : ℕ) → AreOrdered xs → p < length xs →
      begins_to key (get_or xs p []) ≡ true → All (λ h. h.need.low ≤ key) (all_holds (take p xs))
  low_up_to xs zero ordered lt begins = All-nil (λ (h : Hold). h.need.low ≤ key)
  low_up_to xs (suc p) ordered lt begins =
      low_in_front (all_holds (take (suc p) xs)) (get_or xs (suc p) [])
      (between_at xs (suc p) [] lt ordered.rise)
      (All-get_or (λ s. 0 < length s) xs (suc p) [] lt (ordered.filled (omega arith))) begins

  beyond_from : (xs : List (List Hold)) (n : ℕ) → Rises (all_holds xs) →
      ((k : ℕ) (d : List Hold) → n ≤ k → k < length xs → begins_to key (get_or xs k d) ≡ false) →
      All (λ h. key < h.need.low) (all_holds (drop n xs))
  beyond_from [] zero rises none = All-nil (λ (h : Hold). key < h.need.low)
  beyond_from [] (suc n) rises none = All-nil (λ (h : Hold). key < h.need.low)
  beyond_from (x ∷ xs) zero rises none =
      All-append (λ h. key < h.need.low) x (all_holds xs)
      (beyond x (rises_left x (all_holds xs) rises) (none 0 x (omega arith) (omega arith)))
      (beyond_from xs zero (rises_right x (all_holds xs) rises)
      (λ k d le lt. none (suc k) d (omega arith) (omega arith)))
  beyond_from (x ∷ xs) (suc n) rises none =
      beyond_from xs n (rises_right x (all_holds xs) rises)
      (λ k d le lt. none (suc k) d (omega arith) (omega arith))

-- ---- the segments in reach

parts : (xs : List (List Hold)) (n : ℕ) →
    all_holds (take n xs) ++ all_holds (drop n xs) ≡ all_holds xs
parts xs n = sym (flat_map-append (λ s. s) (take n xs) (drop n xs))
    ∙ ap all_holds (take-append-drop n xs)

pub narrow_part : (xs : List (List Hold)) (n widest : ℕ) → AreNarrow widest (all_holds xs) →
    AreNarrow widest (all_holds (take n xs))
narrow_part xs n widest narrow =
    All-left (λ h. h.need.high ≤ h.need.low + widest) (all_holds (take n xs))
    (all_holds (drop n xs)) (subst (AreNarrow widest) (sym (parts xs n)) narrow)

pub ordered_part : (xs : List (List Hold)) (n : ℕ) → AreOrdered xs → AreOrdered (take n xs)
ordered_part xs n ordered = record {
  rise = rises_left (all_holds (take n xs)) (all_holds (drop n xs))
      (subst Rises (sym (parts xs n)) ordered.rise);
  filled = λ many. let long = length-take n xs in
      All-take (λ s. 0 < length s) n xs (ordered.filled (omega arith));
}

-- where a segment begins so far below the need those in front of it do not reach it
pub short : (xs : List (List Hold)) (widest : ℕ) (need : Need) (key n p : ℕ) → AreOrdered xs →
    AreNarrow widest (all_holds xs) → key + widest < need.low → n ≤ length xs →
    IsPartitionPoint (λ s. begins_to key s ≡ true) (λ s. begins_to key s ≡ false) xs n →
    p ≡ n - 1 → All (λ h. h.need.high < need.low) (all_holds (take p xs))
short xs widest need key zero p ordered narrow far le point is =
    let none : p ≡ 0 = omega arith in
    rw none (All-nil (λ (h : Hold). h.need.high < need.low))
short xs widest need key (suc n) p ordered narrow far le point is =
    let same : p ≡ n = omega arith in
    let front = all_holds (take n xs) in
    let low = low_up_to key xs n ordered (omega arith) (point.0 n [] (omega arith) (omega arith)) in
    let spans = narrow_part xs n widest narrow in
    rw same
    (All-weaker (Contains front) (λ h. h.need.high < need.low)
    (λ h there.
    let begins = All-contains (λ h. h.need.low ≤ key) front h low there in
    let ends = All-contains (λ h. h.need.high ≤ h.need.low + widest) front h spans there in
    omega arith) front (All-contains_itself front))

-- between those in front that do not reach the need and those that begin behind it
pub in_reach : (xs : List (List Hold)) (need : Need) (n p : ℕ) → AreOrdered xs →
    IsPartitionPoint (λ s. begins_to need.high s ≡ true) (λ s. begins_to need.high s ≡ false) xs
    n → All (λ h. h.need.high < need.low) (all_holds (take p (take n xs))) →
    AreInReach (all_holds xs) need (all_holds (drop p (take n xs)))
in_reach xs need n p ordered point before =
    let begun = take n xs in
    let behind = beyond_from need.high xs n ordered.rise
    (λ k d le lt. point.1 k d (omega arith) lt) in
    record {
      held = λ h there. subst (λ l. Contains l h) (parts xs n)
          (Contains-append_left (all_holds begun) (all_holds (drop n xs)) h
          (subst (λ l. Contains l h) (parts begun p)
          (Contains-append_right (all_holds (take p begun)) (all_holds (drop p begun)) h there)));
      overlapping = λ h there overlap. ⊎_elim
          (λ begins. ⊎_elim
          (λ ends.
          let less = All-contains (λ h. h.need.high < need.low) (all_holds (take p begun)) h before
          ends in
          let le = overlap.1 in
          absurd (omega arith))
          (λ rest. rest)
          (Contains-append_cases (all_holds (take p begun)) (all_holds (drop p begun)) h
          (subst (λ l. Contains l h) (sym (parts begun p)) begins)))
          (λ later.
          let more = All-contains (λ h. need.high < h.need.low) (all_holds (drop n xs)) h behind
          later in
          let le = overlap.0 in
          absurd (omega arith))
          (Contains-append_cases (all_holds begun) (all_holds (drop n xs)) h
          (subst (λ l. Contains l h) (sym (parts xs n)) there));
    }

-- ---- what is in the way

module _ (owner at : ℕ) (need : Need) (holds some : List Hold)
    (reach : AreInReach holds need some) where
  -- what is so for each hold in reach that is in the way is so for each of all
  widened : (P : Hold → Type 0) → All (λ h. Blocks owner at need h → P h) some →
      All (λ h. Blocks owner at need h → P h) holds
  widened P all = All-weaker (Contains holds) (λ h. Blocks owner at need h → P h)
      (λ h there b. All-contains (λ h. Blocks owner at need h → P h) some h all
      (reach.overlapping h there b.2.0) b) holds (All-contains_itself holds)

  pub least_of_all : (least : Option ℕ) → IsLeast some owner at need least →
      IsLeast holds owner at need least
  least_of_all None clear = widened (λ h. ⊥) clear
  least_of_all (Some n) busy =
      let any = busy.blocked in
      let there = reach.held any.1 (any.0, any.2, any.3) in
      record {
        blocked = (there.0, any.1, there.1, there.2, any.4);
        least = widened (λ h. n ≤ h.owner) busy.least;
      }
