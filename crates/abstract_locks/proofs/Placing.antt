-- The segment that a hold belongs to, and what a change of it makes of all.
use Rattle.std.proofs.Common.{◌≡◌, ◌∙◌, ◌↔◌, ℕ, zero, suc, ◌-◌, ◌<◌, ◌≤◌, List, [], ◌∷◌, ◌++◌}
use Rattle.std.proofs.Common.{◌==◌, Bool, true, false, length, get_or, set, take, drop, IsTrue}
use Rattle.std.proofs.Common.{refl, sym}
use Rattle.std.proofs.Common.{ap, subst, ⊎_elim, arith, append_assoc}
use Rattle.std.specs.List.{All, Contains, insert, remove}
use Rattle.std.specs.List.Sorted.{IsPartitionedBy, IsPartitionPoint}
use Rattle.std.specs.Ordering.{is_le}
use Rattle.std.proofs.lemmas.Bool.{cases_lt, eqb-true, eqb-false}
use Rattle.std.proofs.lemmas.List.{set-get_or, length-set, append-nil, get_or-set_same}
use Rattle.std.proofs.lemmas.List.Elements.{All-nil, All-cons, All-append, All-weaker, All-set}
use Rattle.std.proofs.lemmas.List.Elements.{All-get_or, All-take, All-drop, All-head, All-contains}
use Rattle.std.proofs.lemmas.List.Elements.{All-contains_itself}
use Rattle.std.proofs.lemmas.List.Elements.{Contains-append_left, Contains-append_right}
use Rattle.calls.proofs.Parts.{All-left}
use Rattle.abstract_locks.specs.declared.table.Hold.{Hold}
use Rattle.abstract_locks.specs.Holds.{IsAdded, IsRemoved}
use Rattle.abstract_locks.specs.Order.{Precedes, Rises}
use Rattle.abstract_locks.specs.Segments.{all_holds, AreOrdered, IsSegmentOf, begins_by}
use Rattle.abstract_locks.proofs.Ordering.{in_front}
use Rattle.abstract_locks.proofs.Rising.{ArePreceding, rises_left, rises_right}
use Rattle.abstract_locks.proofs.Rising.{rises_between, exchanged, fresh_between, removed_between}
use Rattle.abstract_locks.proofs.Rising.{known_added, known_removed, front_of, back_of, some_added}

-- ---- all holds, in parts

pub all_set : (xs : List (List Hold)) (i : ℕ) (new : List Hold) → i < length xs →
    all_holds (set xs i new)
    ≡ all_holds (take i xs) ++ (new ++ all_holds (drop (suc i) xs))
all_set [] i new lt = absurd (omega arith)
all_set (x ∷ xs) zero new lt = refl
all_set (x ∷ xs) (suc i) new lt =
    ap (λ l. x ++ l) (all_set xs i new (omega arith))
    ∙ sym (append_assoc x (all_holds (take i xs)) (new ++ all_holds (drop (suc i) xs)))

pub all_at : (xs : List (List Hold)) (i : ℕ) (d : List Hold) → i < length xs →
    all_holds xs
    ≡ all_holds (take i xs) ++ (get_or xs i d ++ all_holds (drop (suc i) xs))
all_at xs i d lt = ap all_holds (sym (set-get_or xs i d)) ∙ all_set xs i (get_or xs i d) lt

pub all_parts : (xs : List (List Hold)) (i : ℕ) (lower upper : List Hold) → i < length xs →
    all_holds (insert (set xs i lower) (suc i) upper)
    ≡ all_holds (take i xs) ++ ((lower ++ upper) ++ all_holds (drop (suc i) xs))
all_parts [] i lower upper lt = absurd (omega arith)
all_parts (x ∷ xs) zero lower upper lt = sym (append_assoc lower upper (all_holds xs))
all_parts (x ∷ xs) (suc i) lower upper lt =
    ap (λ l. x ++ l) (all_parts xs i lower upper (omega arith))
    ∙ sym (append_assoc x (all_holds (take i xs))
    ((lower ++ upper) ++ all_holds (drop (suc i) xs)))

-- an empty segment held nothing
pub all_without : (xs : List (List Hold)) (i : ℕ) → i < length xs →
    ((d : List Hold) → get_or xs i d ≡ []) → all_holds (remove xs i) ≡ all_holds xs
all_without [] i lt empty = absurd (omega arith)
all_without (x ∷ xs) zero lt empty = ap (λ l. l ++ all_holds xs) (sym (empty []))
all_without (x ∷ xs) (suc i) lt empty = ap (λ l. x ++ l) (all_without xs i (omega arith) empty)

same_without : (xs : List (List Hold)) (i : ℕ) (new : List Hold) → i < length xs →
    remove (set xs i new) i ≡ remove xs i
same_without [] i new lt = absurd (omega arith)
same_without (x ∷ xs) zero new lt = refl
same_without (x ∷ xs) (suc i) new lt = ap (λ l. x ∷ l) (same_without xs i new (omega arith))

pub in_all : (xs : List (List Hold)) (i : ℕ) (d : List Hold) (h : Hold) → i < length xs →
    Contains (get_or xs i d) h → Contains (all_holds xs) h
in_all [] i d h lt there = absurd (omega arith)
in_all (x ∷ xs) zero d h lt there = Contains-append_left x (all_holds xs) h there
in_all (x ∷ xs) (suc i) d h lt there =
    Contains-append_right x (all_holds xs) h (in_all xs i d h (omega arith) there)

-- ---- the search for the segment

-- a segment precedes each later one
pub earlier : (xs : List (List Hold)) (i j : ℕ) (d : List Hold) → i < j → j < length xs →
    Rises (all_holds xs) → ArePreceding (get_or xs i d) (get_or xs j d)
earlier [] i j d lt within rises = absurd (omega arith)
earlier (x ∷ xs) i zero d lt within rises = absurd (omega arith)
earlier (x ∷ xs) zero (suc j) d lt within rises =
    All-weaker (λ g. All (Precedes g) (all_holds xs)) (λ g. All (Precedes g) (get_or xs j d))
    (λ g all. All-weaker (Contains (get_or xs j d)) (Precedes g)
    (λ k there. All-contains (Precedes g) (all_holds xs) k all
    (in_all xs j d k (omega arith) there)) (get_or xs j d) (All-contains_itself (get_or xs j d))) x
    (rises_between x (all_holds xs) rises)
earlier (x ∷ xs) (suc i) (suc j) d lt within rises =
    earlier xs i j d (omega arith) (omega arith) (rises_right x (all_holds xs) rises)

begins_too : (s t : List Hold) (h : Hold) → ArePreceding s t → 0 < length s → 0 < length t →
    begins_by h t ≡ true → begins_by h s ≡ true
begins_too [] t h between some more begins = refl
begins_too (f ∷ fs) [] h between some more begins = absurd (omega arith)
begins_too (f ∷ fs) (g ∷ gs) h between some more begins =
    ap is_le (in_front f g h begins (All-head (Precedes f) g gs
    (All-head (λ x. All (Precedes x) (g ∷ gs)) f fs between)))

pub parted : (xs : List (List Hold)) (h : Hold) → AreOrdered xs → IsPartitionedBy (begins_by h) xs
parted xs h ordered i j d le lt begins =
    ⊎_elim
    (λ less.
    let filled = ordered.filled (omega arith) in
    begins_too (get_or xs i d) (get_or xs j d) h (earlier xs i j d less lt ordered.rise)
    (All-get_or (λ s. 0 < length s) xs i d (omega arith) filled)
    (All-get_or (λ s. 0 < length s) xs j d lt filled) begins)
    (λ more. let same : j ≡ i = omega arith in
    subst (λ k. begins_by h (get_or xs k d) ≡ true) same begins) (cases_lt i j)

later : (xs : List (List Hold)) (n : ℕ) (h : Hold) → Rises (all_holds xs) →
    ((k : ℕ) (d : List Hold) → n ≤ k → k < length xs → begins_by h (get_or xs k d) ≡ false) →
    All (Precedes h) (all_holds (drop n xs))
later [] zero h rises none = All-nil (Precedes h)
later [] (suc n) h rises none = All-nil (Precedes h)
later (x ∷ xs) zero h rises none =
    All-append (Precedes h) x (all_holds xs)
    (back_of x h (rises_left x (all_holds xs) rises) (none 0 x (omega arith) (omega arith)))
    (later xs zero h (rises_right x (all_holds xs) rises)
    (λ k d le lt. none (suc k) d (omega arith) (omega arith)))
later (x ∷ xs) (suc n) h rises none = later xs n h (rises_right x (all_holds xs) rises)
    (λ k d le lt. none (suc k) d (omega arith) (omega arith))

pub between_at : (xs : List (List Hold)) (i : ℕ) (d : List Hold) → i < length xs →
    Rises (all_holds xs) → ArePreceding (all_holds (take i xs)) (get_or xs i d)
between_at xs i d lt rises =
    let rest = get_or xs i d ++ all_holds (drop (suc i) xs) in
    All-weaker (λ x. All (Precedes x) rest) (λ x. All (Precedes x) (get_or xs i d))
    (λ x all. All-left (Precedes x) (get_or xs i d) (all_holds (drop (suc i) xs)) all)
    (all_holds (take i xs))
    (rises_between (all_holds (take i xs)) rest (subst Rises (all_at xs i d lt) rises))

earlier_all : (xs : List (List Hold)) (p : ℕ) (h : Hold) → AreOrdered xs → p < length xs →
    begins_by h (get_or xs p []) ≡ true → All (λ g. Precedes g h) (all_holds (take p xs))
earlier_all xs zero h ordered lt begins = All-nil (λ g. Precedes g h)
earlier_all xs (suc p) h ordered lt begins =
    front_of (all_holds (take (suc p) xs)) (get_or xs (suc p) []) h
    (between_at xs (suc p) [] lt ordered.rise)
    (All-get_or (λ s. 0 < length s) xs (suc p) [] lt (ordered.filled (omega arith))) begins

pub placed : (xs : List (List Hold)) (h : Hold) (n p : ℕ) → AreOrdered xs → n ≤ length xs →
    IsPartitionPoint (λ s. begins_by h s ≡ true) (λ s. begins_by h s ≡ false) xs n → p ≡ n - 1 →
    IsSegmentOf xs h p
placed xs h zero p ordered le point is =
    let none : p ≡ 0 = omega arith in
    rw none (record {
      within = λ some. some;
      front = All-nil (λ g. Precedes g h);
      back = later xs 1 h ordered.rise (λ k d le lt. point.1 k d (omega arith) lt);
    })
placed xs h (suc n) p ordered le point is =
    let same : p ≡ n = omega arith in
    rw same (record {
      within = λ some. omega arith;
      front = earlier_all xs n h ordered (omega arith) (point.0 n [] (omega arith) (omega arith));
      back = later xs (suc n) h ordered.rise (λ k d le lt. point.1 k d (omega arith) lt);
    })

-- ---- a change of the segment

set_filled : (xs : List (List Hold)) (i : ℕ) (new : List Hold) → i < length xs →
    (1 < length xs → All (λ s. 0 < length s) xs) → 0 < length new →
    All (λ s. 0 < length s) (set xs i new)
set_filled [] i new lt filled some = absurd (omega arith)
set_filled (x ∷ []) zero new lt filled some =
    All-cons (λ s. 0 < length s) new [] some (All-nil (λ s. 0 < length s))
set_filled (x ∷ []) (suc i) new lt filled some = absurd (omega arith)
set_filled (x ∷ y ∷ ys) i new lt filled some =
    All-set (λ s. 0 < length s) (x ∷ y ∷ ys) i new some (filled (omega arith))

module _ (xs : List (List Hold)) (i : ℕ) (h : Hold) (d : List Hold) (lt : i < length xs)
    (ordered : AreOrdered xs) (here : IsSegmentOf xs h i) where
  rises_here : Rises (all_holds (take i xs) ++ (get_or xs i d ++ all_holds (drop (suc i) xs)))
  rises_here = subst Rises (all_at xs i d lt) ordered.rise

  pub segment_added : (new : List Hold) → IsAdded (get_or xs i d) new h → Rises new →
      AreOrdered (set xs i new)
  segment_added new added own = record {
    rise = subst Rises (sym (all_set xs i new lt))
        (exchanged (all_holds (take i xs)) (all_holds (drop (suc i) xs)) h here.front here.back
        (get_or xs i d) new rises_here own (known_added (get_or xs i d) new h added));
    filled = λ many. set_filled xs i new lt ordered.filled
        (some_added (get_or xs i d) new h added);
  }

  pub segment_fresh : {b : Bool} → IsTrue b ↔ (Contains (get_or xs i d) h → ⊥) →
      IsTrue b ↔ (Contains (all_holds xs) h → ⊥)
  segment_fresh {b} fresh =
      subst (λ l. IsTrue b ↔ (Contains l h → ⊥)) (sym (all_at xs i d lt))
      (fresh_between (all_holds (take i xs)) (all_holds (drop (suc i) xs)) h here.front here.back
      (get_or xs i d) fresh)

  pub segment_split : (lower upper : List Hold) → IsAdded (get_or xs i d) (lower ++ upper) h →
      Rises (lower ++ upper) → 0 < length lower → 0 < length upper →
      AreOrdered (insert (set xs i lower) (suc i) upper)
  segment_split lower upper added own some more =
      let filled = set_filled xs i lower lt ordered.filled some in
      record {
        rise = subst Rises (sym (all_parts xs i lower upper lt))
            (exchanged (all_holds (take i xs)) (all_holds (drop (suc i) xs)) h here.front here.back
            (get_or xs i d) (lower ++ upper) rises_here own
            (known_added (get_or xs i d) (lower ++ upper) h added));
        filled = λ many. All-append (λ s. 0 < length s) (take (suc i) (set xs i lower))
            (upper ∷ drop (suc i) (set xs i lower))
            (All-take (λ s. 0 < length s) (suc i) (set xs i lower) filled)
            (All-cons (λ s. 0 < length s) upper (drop (suc i) (set xs i lower)) more
            (All-drop (λ s. 0 < length s) (suc i) (set xs i lower) filled));
      }

  module _ (new : List Hold) (removed : IsRemoved (get_or xs i d) new h) where
    segment_removed : IsRemoved (all_holds xs) (all_holds (set xs i new)) h
    segment_removed =
        subst (λ l. IsRemoved (all_holds xs) l h) (sym (all_set xs i new lt))
        (subst (λ l. IsRemoved l (all_holds (take i xs) ++ (new ++ all_holds (drop (suc i) xs))) h)
        (sym (all_at xs i d lt))
        (removed_between (all_holds (take i xs)) (all_holds (drop (suc i) xs)) h here.front
        here.back (get_or xs i d) new removed))

    still_rise : Rises new → Rises (all_holds (set xs i new))
    still_rise own = subst Rises (sym (all_set xs i new lt))
        (exchanged (all_holds (take i xs)) (all_holds (drop (suc i) xs)) h here.front here.back
        (get_or xs i d) new rises_here own (known_removed (get_or xs i d) new h removed))

    segment_kept : Rises new → (1 < length xs → 0 < length new) → AreOrdered (set xs i new)
    segment_kept own some = record {
      rise = still_rise own;
      filled = λ many. let long = length-set xs i new in
          set_filled xs i new lt ordered.filled (some (omega arith));
    }

    -- a segment that is empty then is let go
    module _ (empty : new ≡ []) where
      gone : all_holds (remove (set xs i new) i) ≡ all_holds (set xs i new)
      gone = all_without (set xs i new) i (let long = length-set xs i new in omega arith)
          (λ e. get_or-set_same xs i new e lt ∙ empty)

      segment_gone : IsRemoved (all_holds xs) (all_holds (remove (set xs i new) i)) h
      segment_gone = rw gone segment_removed

      segment_let_go : 1 < length xs → AreOrdered (remove (set xs i new) i)
      segment_let_go many =
          let filled = ordered.filled many in
          record {
            rise = rw gone (still_rise (rw empty tt));
            filled = λ more. subst (All (λ s. 0 < length s)) (sym (same_without xs i new lt))
                (All-append (λ s. 0 < length s) (take i xs) (drop (suc i) xs)
                (All-take (λ s. 0 < length s) i xs filled)
                (All-drop (λ s. 0 < length s) (suc i) xs filled));
          }

-- the segment that is looked at behind the change is empty
emptied : (xs : List (List Hold)) (i : ℕ) (new x : List Hold) → i < length xs →
    x ≡ get_or (set xs i new) i x → (length x == 0) ≡ true → new ≡ []
emptied xs i [] x lt is none = refl
emptied xs i (h ∷ hs) x lt is none =
    let same = ap length (is ∙ get_or-set_same xs i (h ∷ hs) x lt) in
    let zero_long = eqb-true (length x) 0 none in
    absurd (omega arith)

still_some : (xs : List (List Hold)) (i : ℕ) (new x : List Hold) → i < length xs →
    x ≡ get_or (set xs i new) i x → (length x == 0) ≡ false → 0 < length new
still_some xs i new x lt is some =
    let same = ap length (is ∙ get_or-set_same xs i new x lt) in
    let long = eqb-false (length x) 0 some in
    omega arith

-- a hold is taken out of the segment that is found
module _ (new : List Hold) {xs : List (List Hold)} {i : ℕ} {h : Hold} {x : List Hold}
    (ordered : AreOrdered xs) (here : IsSegmentOf xs h i) (lt : i < length xs)
    (at : x ≡ get_or xs i x) (removed : IsRemoved x new h) where
  removed_there : IsRemoved (get_or xs i x) new h
  removed_there = subst (λ s. IsRemoved s new h) at removed

  pub left_out : IsRemoved (all_holds xs) (all_holds (set xs i new)) h
  left_out = segment_removed xs i h x lt ordered here new removed_there

  -- the order stays where the segment is the only one,
  pub only_kept : Rises new → length xs ≤ 1 → AreOrdered (set xs i new)
  only_kept own few = segment_kept xs i h x lt ordered here new removed_there own
      (λ many. absurd (omega arith))

  module _ {y : List Hold} (looked : y ≡ get_or (set xs i new) i y) where
    -- or has some left,
    pub filled_kept : Rises new → (length y == 0) ≡ false → AreOrdered (set xs i new)
    filled_kept own more = segment_kept xs i h x lt ordered here new removed_there own
        (λ many. still_some xs i new y lt looked more)

    -- or is let go
    module _ (none : (length y == 0) ≡ true) where
      pub gone_out : IsRemoved (all_holds xs) (all_holds (remove (set xs i new) i)) h
      gone_out = segment_gone xs i h x lt ordered here new removed_there
          (emptied xs i new y lt looked none)

      pub gone_kept : 1 < length xs → AreOrdered (remove (set xs i new) i)
      gone_kept many = segment_let_go xs i h x lt ordered here new removed_there
          (emptied xs i new y lt looked none) many

-- ---- no segment

-- the first one
pub first_ordered : (xs : List (List Hold)) (new : List Hold) → length xs ≡ 0 → Rises new →
    AreOrdered (xs ++ new ∷ [])
first_ordered [] new none own = record {
  rise = subst Rises (sym (append-nil new)) own;
  filled = λ many. absurd (omega arith);
}
first_ordered (x ∷ xs) new none own = absurd (omega arith)

pub first_fresh : {b : Bool} (xs : List (List Hold)) (h : Hold) → length xs ≡ 0 →
    IsTrue b ↔ (Contains [] h → ⊥) → IsTrue b ↔ (Contains (all_holds xs) h → ⊥)
first_fresh [] h none fresh = fresh
first_fresh (x ∷ xs) h none fresh = absurd (omega arith)
