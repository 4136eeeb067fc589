-- The marks of the transactions in the slots, one transaction after another and merged, and what a
-- write of one slot makes of them.
use Rattle.std.proofs.Common.{◌≡◌, ◌≢◌, ℕ, suc, zero, ◌==◌, Bool, true, false, not}
use Rattle.std.proofs.Common.{⊎_elim, Option, Some, None, List, [], ◌∷◌}
use Rattle.std.proofs.Common.{map, get_or, refl, sym, ap, subst, ◌∙◌, arith}
use Rattle.std.specs.List.{filter}
use Rattle.std.specs.Ordering.{nat_cmp}
use Rattle.std.specs.FinMap as maps
use Rattle.std.proofs.lemmas.Bool.{cases_eq, eq-eqb, ne_eqb}
use Rattle.std.proofs.lemmas.Simd.{map-map}
use Rattle.slab.specs.Slab.{Slab, get, Updates}
use Rattle.calls.specs.Transactions.{Entry, own, others}
use Rattle.undo_log.specs.declared.live.Transaction.{Transaction}
use Rattle.undo_log.specs.declared.logged.Stamped.{Stamped}
use Rattle.undo_log.specs.Entries.{stamped_entry}
use Rattle.undo_log.specs.Logs.{EachOnce, IsSlotOf}
use Rattle.undo_log.specs.Stamps.{Mark, marks, all_marks, merged, marks_of}
use Rattle.undo_log.proofs.Rising.{In, in_left, in_right, in_either, in_filter, filter_in, in_map}
use Rattle.undo_log.proofs.Rising.{nothing, Rises, map_rises, map_is, rises_filter}
use Rattle.undo_log.proofs.Rising.{same_rising, in_map_of}
use Rattle.undo_log.proofs.Owns.{filter_mapped, filter_through}
use Rattle.undo_log.proofs.Slots.{same_value, from_put, from_gone}

-- ---- the marks of a number, and what was asked for

-- The mark is not of the number.
abbrev pub is_other : ℕ → Mark → Bool
is_other n m = not (m.1.0 == n)

abbrev pub rest_of : ℕ → List Mark → List Mark
rest_of n ms = filter (is_other n) ms

abbrev pub told : List Mark → List (ℕ × Entry)
told ms = map (λ m. m.1) ms

pub own_told : (n : ℕ) (ms : List Mark) → own n (told ms) ≡ map (λ m. m.1.1) (marks_of n ms)
own_told n ms = ap (map (λ e. e.1)) (filter_mapped (λ e. e.0 == n) (λ m. m.1) ms) ∙
    map-map (λ (e : ℕ × Entry). e.1) (λ (m : Mark). m.1) (marks_of n ms)

pub others_told : (n : ℕ) (ms : List Mark) → others n (told ms) ≡ told (rest_of n ms)
others_told n ms = filter_mapped (λ e. not (e.0 == n)) (λ m. m.1) ms

-- what a transaction asked for
pub entries_told : (t : Transaction) → map (λ m. m.1.1) (marks t) ≡
    map stamped_entry t.entries.items
entries_told t = map-map (λ (m : Mark). m.1.1)
    (λ (s : Stamped). (s.stamp, (t.number, stamped_entry s))) t.entries.items

pub number_of : (t : Transaction) (m : Mark) → In m (marks t) → m.1.0 ≡ t.number
number_of t m i =
    let r = in_map (λ (s : Stamped). (s.stamp, (t.number, stamped_entry s))) m t.entries.items i in
    sym (ap (λ v. v.1.0) r.2)

mine_is : (n : ℕ) (m : Mark) → m.1.0 ≡ n → (m.1.0 == n) ≡ true
mine_is n m e = eq-eqb m.1.0 n e

other_is : (n : ℕ) (m : Mark) → (m.1.0 ≡ n → ⊥) → is_other n m ≡ true
other_is n m e = ap not (ne_eqb m.1.0 n e)

is_mine : (n : ℕ) (m : Mark) → (m.1.0 == n) ≡ true → m.1.0 ≡ n
is_mine n m e = grind arith

not_mine : (n : ℕ) (m : Mark) → is_other n m ≡ true → m.1.0 ≡ n → ⊥
not_mine n m e same =
    let no : false ≡ true = sym (ap not (eq-eqb m.1.0 n same)) ∙ e in
    cc

-- the marks of another number are among those of all others
pub still_own : (n k : ℕ) (ms : List Mark) → k ≢ n → marks_of k (rest_of n ms) ≡ marks_of k ms
still_own n k ms other = filter_through (λ m. m.1.0 == k) (is_other n)
    (λ m e. other_is n m (λ same. other (sym (is_mine k m e) ∙ same))) ms

-- ---- the slots

-- what is in a slot is among all,
marks_in : (slots : List (Option Transaction)) (m : Mark) (k : ℕ) (t : Transaction) →
    get_or slots k None ≡ Some t → In m (marks t) → In m (all_marks slots)
marks_in [] m k t h i = cc
marks_in (None ∷ rest) m zero t h i = cc
marks_in (None ∷ rest) m (suc k) t h i = marks_in rest m k t h i
marks_in (Some u ∷ rest) m zero t h i =
    in_left m (marks u) (all_marks rest) (subst (λ v. In m (marks v)) (sym (same_value u t h)) i)
marks_in (Some u ∷ rest) m (suc k) t h i =
    in_right m (marks u) (all_marks rest) (marks_in rest m k t h i)

-- and what is among all is in a slot
pub in_marks : (slots : List (Option Transaction)) (m : Mark) → In m (all_marks slots) →
    (k : ℕ) × (t : Transaction) × (get_or slots k None ≡ Some t) × In m (marks t)
in_marks [] m i = absurd i
in_marks (None ∷ rest) m i = let r = in_marks rest m i in (suc r.0, r.1, r.2, r.3)
in_marks (Some u ∷ rest) m i =
    ⊎_elim (λ (here : In m (marks u)). (0, u, refl, here))
    (λ (later : In m (all_marks rest)). let r = in_marks rest m later in (suc r.0, r.1, r.2, r.3))
    (in_either m (marks u) (all_marks rest) i)

pub merged_rises : (slots : List (Option Transaction)) → Rises (merged slots)
unfolding merged
merged_rises slots = map_rises (maps.from_entries {R = nat_cmp} (all_marks slots))

pub merged_is : (slots : List (Option Transaction)) (ms : List Mark) → Rises ms →
    ((m : Mark) → In m (all_marks slots) → In m ms) →
    ((m : Mark) → In m ms → In m (all_marks slots)) → merged slots ≡ ms
unfolding merged
merged_is slots ms rises into from = map_is (all_marks slots) ms rises into from

in_merged_list : (slots : List (Option Transaction)) (m : Mark) → In m (merged slots) →
    In m (all_marks slots)
unfolding merged
in_merged_list slots m i = in_map_of (all_marks slots) m i

-- Each slot has what its transaction asked for.
abbrev pub Each : Slab Transaction → Type 0
Each s = (key : ℕ) (t : Transaction) → get s key ≡ Some t →
    marks_of t.number (merged s.slots) ≡ marks t

pub none_merged : (slots : List (Option Transaction)) → slots ≡ [] → merged slots ≡ []
none_merged slots e = nothing (merged slots) (λ m i.
    let r = in_marks slots m (in_merged_list slots m i) in
    let no : None ≡ Some r.1 = sym (ap (λ l. get_or l r.0 None) e) ∙ r.2 in
    cc)

module _ (s : Slab Transaction) where
  in_slot : (m : Mark) → In m (merged s.slots) →
      (k : ℕ) × (t : Transaction) × (get s k ≡ Some t) × In m (marks t)
  in_slot m i = in_marks s.slots m (in_merged_list s.slots m i)

  -- a number without a slot has no mark
  pub none_of_free : (n : ℕ) → ((key : ℕ) → IsSlotOf s n key → ⊥) → marks_of n (merged s.slots) ≡ []
  none_of_free n free = nothing (marks_of n (merged s.slots)) (λ m i.
      let f = in_filter (λ v. v.1.0 == n) m (merged s.slots) i in
      let r = in_slot m f.0 in
      free r.0 (r.1, r.2, sym (number_of r.1 m r.3) ∙ is_mine n m f.1))

  -- and all marks are of others
  pub rest_free : (n : ℕ) → ((key : ℕ) → IsSlotOf s n key → ⊥) →
      others n (told (merged s.slots)) ≡ told (merged s.slots)
  rest_free n free =
      others_told n (merged s.slots) ∙
      ap told (same_rising (rest_of n (merged s.slots)) (merged s.slots)
      (rises_filter (is_other n) (merged s.slots) (merged_rises s.slots)) (merged_rises s.slots)
      (λ m i. (in_filter (is_other n) m (merged s.slots) i).0)
      (λ m i. let r = in_slot m i in
      filter_in (is_other n) m (merged s.slots) i
      (other_is n m (λ e. free r.0 (r.1, r.2, sym (number_of r.1 m r.3) ∙ e)))))

  module _ (each : Each s) where
    slot_in : (m : Mark) (k : ℕ) (t : Transaction) → get s k ≡ Some t → In m (marks t) →
        In m (merged s.slots)
    slot_in m k t h i =
        (in_filter (λ v. v.1.0 == t.number) m (merged s.slots)
        (subst (In m) (sym (each k t h)) i)).0

    -- what the transaction of a number asked for,
    pub own_slot : (n k : ℕ) (t : Transaction) → get s k ≡ Some t → t.number ≡ n →
        map stamped_entry t.entries.items ≡ own n (told (merged s.slots))
    own_slot n k t h e =
        sym (entries_told t) ∙ ap (map (λ m. m.1.1)) (sym (each k t h)) ∙
        ap (λ v. map (λ m. m.1.1) (marks_of v (merged s.slots))) e ∙
        sym (own_told n (merged s.slots))

  -- and of one that is not live
  pub own_none : (n : ℕ) → ((key : ℕ) → IsSlotOf s n key → ⊥) → own n (told (merged s.slots)) ≡ []
  own_none n free =
      own_told n (merged s.slots) ∙ ap (map (λ m. m.1.1)) (none_of_free n free)

-- ---- a slot is written

module _ (old new : Slab Transaction) (once : EachOnce old) (key : ℕ) (now : Transaction)
    (put : Updates old new key (Some now))
    (mine : (u : Transaction) → get old key ≡ Some u → u.number ≡ now.number)
    (alone : (k : ℕ) (u : Transaction) → k ≢ key → get old k ≡ Some u → u.number ≢ now.number)
    (each : Each old) (ms : List Mark) (rises : Rises ms)
    (own_is : marks_of now.number ms ≡ marks now)
    (rest_is : rest_of now.number ms ≡ rest_of now.number (merged old.slots)) where
  into : (m : Mark) → In m (all_marks new.slots) → In m ms
  into m i =
      let r = in_marks new.slots m i in
      ⊎_elim
      (λ (here : (r.0 ≡ key) × (now ≡ r.1)).
      (in_filter (λ v. v.1.0 == now.number) m ms
      (subst (In m) (sym own_is) (subst (λ t. In m (marks t)) (sym here.1) r.3))).0)
      (λ (there : (r.0 ≢ key) × (get old r.0 ≡ Some r.1)).
      let other = other_is now.number m
      (λ e. alone r.0 r.1 there.0 there.1 (sym (number_of r.1 m r.3) ∙ e)) in
      (in_filter (is_other now.number) m ms
      (subst (In m) (sym rest_is) (filter_in (is_other now.number) m (merged old.slots)
      (slot_in old each m r.0 r.1 there.1 r.3) other))).0)
      (from_put old new once key now put r.0 r.1 r.2)

  out : (m : Mark) → In m ms → In m (all_marks new.slots)
  out m i =
      ⊎_elim
      (λ (same : m.1.0 ≡ now.number). marks_in new.slots m key now put.changed
      (subst (In m) own_is (filter_in (λ v. v.1.0 == now.number) m ms i
      (mine_is now.number m same))))
      (λ (other : m.1.0 ≡ now.number → ⊥).
      let was = in_filter (is_other now.number) m (merged old.slots)
      (subst (In m) rest_is (filter_in (is_other now.number) m ms i (other_is now.number m other)))
      in
      let r = in_slot old m was.0 in
      let away : r.0 ≢ key = λ e.
      other (number_of r.1 m r.3 ∙ mine r.1 (ap (get old) (sym e) ∙ r.2)) in
      marks_in new.slots m r.0 r.1 (put.others r.0 away ∙ r.2) r.3)
      (cases_eq m.1.0 now.number)

  pub written_merged : merged new.slots ≡ ms
  written_merged = merged_is new.slots ms rises into out

  pub written_each : Each new
  written_each k t h =
      ⊎_elim
      (λ (here : (k ≡ key) × (now ≡ t)).
      subst (λ u. marks_of u.number (merged new.slots) ≡ marks u) here.1
      (ap (marks_of now.number) written_merged ∙ own_is))
      (λ (there : (k ≢ key) × (get old k ≡ Some t)).
      let other = alone k t there.0 there.1 in
      ap (marks_of t.number) written_merged ∙ sym (still_own now.number t.number ms other) ∙
      ap (marks_of t.number) rest_is ∙
      still_own now.number t.number (merged old.slots) other ∙ each k t there.1)
      (from_put old new once key now put k t h)

-- ---- a slot is made free

module _ (old new : Slab Transaction) (once : EachOnce old) (key : ℕ) (was : Transaction)
    (there : get old key ≡ Some was) (gone : Updates old new key None) (each : Each old) where
  apart : (k : ℕ) (t : Transaction) → get new k ≡ Some t →
      (get old k ≡ Some t) × (t.number ≢ was.number)
  apart k t h =
      let r = from_gone old new once key was there gone k t h in
      (r.1, λ e. r.0 (once k key t was r.1 there e))

  pub cleared_merged : merged new.slots ≡ rest_of was.number (merged old.slots)
  cleared_merged =
      merged_is new.slots (rest_of was.number (merged old.slots))
      (rises_filter (is_other was.number) (merged old.slots) (merged_rises old.slots))
      (λ m i.
      let r = in_marks new.slots m i in
      let a = apart r.0 r.1 r.2 in
      filter_in (is_other was.number) m (merged old.slots) (slot_in old each m r.0 r.1 a.0 r.3)
      (other_is was.number m (λ e. a.1 (sym (number_of r.1 m r.3) ∙ e))))
      (λ m i.
      let f = in_filter (is_other was.number) m (merged old.slots) i in
      let r = in_slot old m f.0 in
      let away : r.0 ≢ key = λ e.
      let same = same_value r.1 was (sym r.2 ∙ ap (get old) e ∙ there) in
      not_mine was.number m f.1 (number_of r.1 m r.3 ∙ ap (λ t. t.number) same) in
      marks_in new.slots m r.0 r.1 (gone.others r.0 away ∙ r.2) r.3)

  pub cleared_each : Each new
  cleared_each k t h =
      let a = apart k t h in
      ap (marks_of t.number) cleared_merged ∙
      still_own was.number t.number (merged old.slots) a.1 ∙ each k t a.0
