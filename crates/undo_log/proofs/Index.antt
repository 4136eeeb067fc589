-- The index of the live numbers: one is found, put in, or taken out.
use Rattle.std.proofs.Common.{◌≡◌, ◌≢◌, ◌∙◌, ℕ, suc, ◌+◌, ◌<◌, ◌≤◌, List, [], ◌∷◌, ◌++◌}
use Rattle.std.proofs.Common.{length, get_or, take, drop, sym, ap, subst, ⊎_elim, ◌⊎◌, inl, inr}
use Rattle.std.proofs.Common.{arith, refl, take-append-drop, length-take, length-drop, Some, None}
use Rattle.std.proofs.Common.{Result, Ok, Err, IfOk, IfErr, is_some, ◌↔◌}
use Rattle.std.specs.List.{All, Contains, HoldsAt, insert, remove}
use Rattle.std.specs.List.Sorted.{IsSearchInRange, IsBinarySearchResult}
use Rattle.std.specs.Ordering.{nat_cmp}
use Rattle.std.proofs.lemmas.Bool.{cases_eq}
use Rattle.std.proofs.lemmas.List.{get_or-take, get_or-drop, drop_more}
use Rattle.std.proofs.lemmas.List.Elements.{All-contains, All-head, All-weaker}
use Rattle.std.proofs.lemmas.List.Elements.{All-contains_itself, Contains-push}
use Rattle.std.proofs.lemmas.List.Elements.{Contains-append_left, Contains-append_right}
use Rattle.std.proofs.lemmas.List.Elements.{Contains-append_cases}
use Rattle.slab.specs.Slab.{Slab, get, Updates, with_value}
use Rattle.slab.proofs.SlabLemmas.{Updates-with_value}
use Rattle.calls.proofs.Parts.{only, around}
use Rattle.calls.proofs.RisingKeys as rising
use Rattle.calls.proofs.RisingKeys.{IsOrder, IsGap, put, removed, rise_at, never_fall, fork_at}
use Rattle.calls.proofs.RisingKeys.{others_at}
use Rattle.undo_log.specs.declared.live.Transaction.{Transaction}
use Rattle.undo_log.specs.declared.live.Handle.{Handle}
use Rattle.undo_log.specs.Logs.{IsSlotOf, IsLeastSlot, IsNextSlot}
use Rattle.undo_log.specs.Index.{AreRising, IsIndex, IsGapFor}
use Rattle.undo_log.proofs.Slots.{same_value}

-- ---- what is in a list

module _ {X : Type 0} where
  -- what is before an element, is it, or is behind it
  cases : (l : List X) (x : X) (r : List X) (y : X) → Contains (l ++ x ∷ r) y →
      Contains l y ⊎ ((x ≡ y) ⊎ Contains r y)
  cases l x r y inside =
      ⊎_elim (λ a. inl a)
      (λ rest. inr (⊎_elim (λ one. inl (only x y one)) (λ later. inr later)
      (Contains-append_cases (x ∷ []) r y rest)))
      (Contains-append_cases l (x ∷ r) y inside)

  here : (l : List X) (x : X) (r : List X) → Contains (l ++ x ∷ r) x
  here l x r = Contains-append_right l (x ∷ r) x
      (Contains-append_left (x ∷ []) r x (Contains-push [] x))

  -- one element more in the middle
  amid : (l : List X) (x : X) (r : List X) (y : X) → Contains (l ++ r) y → Contains (l ++ x ∷ r) y
  amid l x r y inside =
      ⊎_elim (λ a. Contains-append_left l (x ∷ r) y a)
      (λ b. Contains-append_right l (x ∷ r) y (Contains-append_right (x ∷ []) r y b))
      (Contains-append_cases l r y inside)

-- ---- handles in the order of their numbers

abbrev pub number_of : Handle → ℕ
number_of s = s.number

-- the index rises by its numbers
by_number : IsOrder number_of AreRising
by_number = record {
  none = tt;
  above = λ s rest up. up.0;
  rest = λ s rest up. up.1;
  more = λ s rest above up. (above, up);
}

gap_of : (n : ℕ) (index : List Handle) (i : ℕ) → IsGapFor n index i → IsGap number_of n index i
gap_of n index i gap =
    record { within = gap.within; lesser = gap.lesser; greater = gap.greater }

-- where a halving ends
pub searched : (index : List Handle) → AreRising index → (n : ℕ) (r : Result ℕ ℕ) →
    IsSearchInRange r (length index) → IsBinarySearchResult (λ x. nat_cmp x.number n) index r →
    record {
      found : IfOk r (λ i. (i < length index) × HoldsAt (λ x. x.number ≡ n) index i);
      absent : IfErr r (IsGapFor n index);
    }
searched index up n (Ok i) in_range equal = record {
  found = rising.searched by_number index up n (Ok i) in_range equal;
  absent = tt;
}
searched index up n (Err i) in_range parted =
    let gap = rising.searched by_number index up n (Err i) in_range parted in
    record {
      found = tt;
      absent = record { within = gap.within; lesser = gap.lesser; greater = gap.greater };
    }

-- ---- the index of the slots

module _ (s : Slab Transaction) (index : List Handle) (is : IsIndex s index) where
  -- a handle that stands in the index is that of a slot
  pub handle_found : (n i : ℕ) → i < length index → HoldsAt (λ x. x.number ≡ n) index i →
      (x : Handle) → x ≡ get_or index i x → IsSlotOf s n x.slot
  handle_found n i lt holds x here = subst (λ m. IsSlotOf s m x.slot)
      (ap number_of here ∙ holds x) ((is.handles x).0 (i, lt, sym here))

  -- a number for which there is a gap has no slot
  pub none_in_gap : (n i : ℕ) → IsGapFor n index i → (key : ℕ) → IsSlotOf s n key → ⊥
  none_in_gap n i gap key slot =
      let handle : Handle = record { number = n; slot = key } in
      let other = rising.none_in_gap number_of n index i (gap_of n index i gap) in
      All-contains (λ x. x.number ≢ n) index handle other ((is.handles handle).1 slot) refl

  -- no handle has a number that no slot has
  pub all_others : (n : ℕ) → ((k : ℕ) (t : Transaction) → get s k ≡ Some t → t.number ≢ n) →
      All (λ x. x.number ≢ n) index
  all_others n fresh = All-weaker (Contains index) (λ x. x.number ≢ n)
      (λ x inside same. let slot = (is.handles x).0 inside in
      fresh x.slot slot.0 slot.1 (slot.2 ∙ same)) index (All-contains_itself index)

-- the index stays where the slots keep their numbers
pub index_kept : (old new : Slab Transaction) (index : List Handle) → IsIndex old index →
    ((n k : ℕ) → IsSlotOf old n k ↔ IsSlotOf new n k) → IsIndex new index
index_kept old new index is same = record {
  rising = is.rising;
  handles = λ s. (
    λ inside. (same s.number s.slot).0 ((is.handles s).0 inside),
    λ slot. (is.handles s).1 ((same s.number s.slot).1 slot),
  );
}

-- with no slot
pub none_index : (s : Slab Transaction) → s.slots ≡ [] → IsIndex s []
none_index s empty = record {
  rising = tt;
  handles = λ x. (
    λ inside. let lt = inside.1 in absurd (omega arith),
    λ slot. let no : None ≡ Some slot.0 = sym (ap (λ l. get_or l x.slot None) empty) ∙ slot.1 in
        cc,
  );
}

-- the slot of a transaction is written
pub written_index : (old : Slab Transaction) (index : List Handle) → IsIndex old index → (key : ℕ)
    (was now : Transaction) → get old key ≡ Some was → now.number ≡ was.number →
    IsIndex (with_value old key now) index
written_index old index is key was now there number =
    let put = Updates-with_value old key now (ap is_some there) in
    index_kept old (with_value old key now) index is (λ n k. (
      λ slot. ⊎_elim
          (λ (same : k ≡ key). (
            now,
            ap (get (with_value old key now)) same ∙ put.changed,
            number ∙ ap (λ t. t.number) (same_value was slot.0
                (sym there ∙ ap (get old) (sym same) ∙
                slot.1)) ∙ slot.2,
          ))
          (λ (other : k ≡ key → ⊥). (slot.0, put.others k other ∙ slot.1, slot.2))
          (cases_eq k key),
      λ slot. ⊎_elim
          (λ (same : k ≡ key). (
            was,
            ap (get old) same ∙ there,
            sym number ∙ ap (λ t. t.number) (same_value now slot.0 (sym put.changed ∙
                ap (get (with_value old key now)) (sym same) ∙ slot.1)) ∙ slot.2,
          ))
          (λ (other : k ≡ key → ⊥). (slot.0, sym (put.others k other) ∙ slot.1, slot.2))
          (cases_eq k key),
    ))

-- a handle is put in
module _ (index : List Handle) (up : AreRising index) (i : ℕ) (handle : Handle)
    (gap : IsGapFor handle.number index i) where
  pub inserted_rises : AreRising (insert index i handle)
  inserted_rises = put by_number index i handle up (gap_of handle.number index i gap)

  pub inserted : (s : Handle) → Contains (insert index i handle) s ↔
      (Contains index s ⊎ (s ≡ handle))
  inserted s =
      let whole = take-append-drop i index in (
        λ inside. ⊎_elim
            (λ a. inl (subst (λ l. Contains l s) whole
            (Contains-append_left (take i index) (drop i index) s a)))
            (λ rest. ⊎_elim (λ one. inr (sym one))
            (λ b. inl (subst (λ l. Contains l s) whole
            (Contains-append_right (take i index) (drop i index) s b))) rest)
            (cases (take i index) handle (drop i index) s inside),
        λ either. ⊎_elim
            (λ was. amid (take i index) handle (drop i index) s
            (subst (λ l. Contains l s) (sym whole) was))
            (λ same. subst (Contains (insert index i handle)) (sym same)
            (here (take i index) handle (drop i index)))
            either,
      )

-- a number gets a slot
pub put_index : (old new : Slab Transaction) (index put : List Handle) → IsIndex old index →
    (key : ℕ) (t : Transaction) → get old key ≡ None → Updates old new key (Some t) →
    AreRising put →
    ((s : Handle) → Contains put s ↔
    (Contains index s ⊎ (s ≡ record { number = t.number; slot = key }))) → IsIndex new put
put_index old new index put is key t vacant updates rising listed = record {
  rising = rising;
  handles = λ s. (
    λ inside. ⊎_elim
        (λ was. let slot = (is.handles s).0 was in
        let away : s.slot ≢ key = λ same. let no : None ≡ Some slot.0 =
        sym vacant ∙ ap (get old) (sym same) ∙ slot.1 in cc in
        (slot.0, updates.others s.slot away ∙ slot.1, slot.2))
        (λ (same : s ≡ record { number = t.number; slot = key }). (
          t,
          ap (λ (x : Handle). get new x.slot) same ∙ updates.changed,
          sym (ap number_of same),
        ))
        ((listed s).0 inside),
    λ slot. (listed s).1 (⊎_elim
        (λ (same : s.slot ≡ key).
        let number : s.number ≡ t.number = sym slot.2 ∙ ap (λ u. u.number)
        (same_value slot.0 t (sym slot.1 ∙ ap (get new) same ∙ updates.changed)) in
        inr (λ i. record { number = number i; slot = same i }))
        (λ (other : s.slot ≡ key → ⊥). inl ((is.handles s).1
        (slot.0, sym (updates.others s.slot other) ∙ slot.1, slot.2)))
        (cases_eq s.slot key)),
  );
}

-- a handle of the index
module _ (s : Slab Transaction) (index : List Handle) (is : IsIndex s index) (i : ℕ)
    (lt : i < length index) (x : Handle) (at : x ≡ get_or index i x) where
  whole : index ≡ take i index ++ x ∷ drop (suc i) index
  whole = sym (around index i x lt at)

  pub its : IsSlotOf s x.number x.slot
  its = (is.handles x).0 (i, lt, sym at)

  -- what is not before it has no lesser number
  not_less : (handle : Handle) → IsSlotOf s handle.number handle.slot →
      (Contains (take i index) handle → ⊥) → x.number ≤ handle.number
  not_less handle slot later =
      ⊎_elim (λ a. absurd (later a))
      (λ rest. ⊎_elim
      (λ one. let same : x.number ≡ handle.number = ap number_of one in omega arith)
      (λ b. let fork = fork_at by_number index is.rising i x lt at in
      let more = All-contains (λ y. x.number < y.number) (drop (suc i) index) handle fork.above b in
      omega arith) rest)
      (cases (take i index) x (drop (suc i) index) handle
      (subst (λ l. Contains l handle) whole ((is.handles handle).1 slot)))

  -- the first one has the least number,
  pub least_handle : i ≡ 0 → IsLeastSlot s x.number
  least_handle first = record {
    key = x.slot;
    there = its;
    least = λ key t h. not_less (record { number = t.number; slot = key }) (t, h, refl)
        (λ before. let few = length-take i index in let within = before.1 in absurd (omega arith));
  }

  -- and the first above another the least above that
  pub next_handle : (after : ℕ) → All (λ y. y.number ≤ after) (take i index) →
      All (λ y. after < y.number) (drop i index) → IsNextSlot s after x.number
  next_handle after below above = record {
    key = x.slot;
    there = its;
    above = All-head (λ y. after < y.number) x (drop (i + 1) index)
        (subst (All (λ y. after < y.number))
        (drop_more index i x lt ∙ ap (λ y. y ∷ drop (i + 1) index) (sym at)) above);
    least = λ key t h over. let handle : Handle = record { number = t.number; slot = key } in
        not_less handle (t, h, refl) (λ before.
        let low = All-contains (λ y. y.number ≤ after) (take i index) handle below before in
        absurd (omega arith));
  }

-- with no handle, or none above the other
pub no_handle : (s : Slab Transaction) (index : List Handle) → IsIndex s index → length index ≤ 0 →
    (key : ℕ) (t : Transaction) → get s key ≡ Some t → ⊥
no_handle s index is empty key t h =
    let inside = (is.handles (record { number = t.number; slot = key })).1 (t, h, refl) in
    let within = inside.1 in
    absurd (omega arith)

pub none_above : (s : Slab Transaction) (index : List Handle) → IsIndex s index → (after i : ℕ) →
    All (λ y. y.number ≤ after) (take i index) → length index ≤ i →
    (key : ℕ) (t : Transaction) → get s key ≡ Some t → t.number ≤ after
none_above s index is after i below over key t h =
    let handle : Handle = record { number = t.number; slot = key } in
    ⊎_elim
    (λ a. All-contains (λ y. y.number ≤ after) (take i index) handle below a)
    (λ b. let few = length-drop i index in let within = b.1 in absurd (omega arith))
    (Contains-append_cases (take i index) (drop i index) handle
    (subst (λ l. Contains l handle) (sym (take-append-drop i index))
    ((is.handles handle).1 (t, h, refl))))

-- where the numbers above one begin that is there
module _ (index : List Handle) (up : AreRising index) (n i : ℕ) (lt : i < length index)
    (holds : HoldsAt (λ x. x.number ≡ n) index i) where
  pub found_below : All (λ y. y.number ≤ n) (take (i + 1) index)
  found_below k d within =
      let few = length-take (i + 1) index in
      let below : k < i + 1 = omega arith in
      let here : (get_or index i d).number ≡ n = holds d in
      rw (get_or-take (i + 1) index k d below)
      (let most = never_fall by_number index k i d up (omega arith) lt in omega arith)

  pub found_above : All (λ y. n < y.number) (drop (i + 1) index)
  found_above k d within =
      let few = length-drop (i + 1) index in
      let here : (get_or index i d).number ≡ n = holds d in
      let over = rise_at by_number index i (i + 1 + k) d up (omega arith) (omega arith) in
      rw (get_or-drop (i + 1) index k d) (omega arith)

-- and above one that is not there
pub gap_below : (index : List Handle) (n i : ℕ) → IsGapFor n index i →
    All (λ y. y.number ≤ n) (take i index)
gap_below index n i gap = All-weaker (λ y. y.number < n) (λ y. y.number ≤ n)
    (λ y less. omega arith) (take i index) gap.lesser

-- a number's slot becomes free
module _ (old new : Slab Transaction) (index : List Handle) (is : IsIndex old index) (i : ℕ)
    (lt : i < length index) (x : Handle) (at : x ≡ get_or index i x)
    (gone : Updates old new x.slot None) where
  all : index ≡ take i index ++ x ∷ drop (suc i) index
  all = whole old index is i lt x at

  mine : IsSlotOf old x.number x.slot
  mine = its old index is i lt x at

  pub gone_index : IsIndex new (remove index i)
  gone_index = record {
    rising = removed by_number index is.rising i x lt at;
    handles = λ s. (
      λ inside.
          let was : Contains index s = subst (λ l. Contains l s) (sym all)
          (amid (take i index) x (drop (suc i) index) s inside) in
          let slot = (is.handles s).0 was in
          let other = others_at by_number index is.rising i x lt at in
          let away : s.slot ≢ x.slot = λ same.
          All-contains (λ y. y.number ≢ x.number) (remove index i) s other inside
          (sym slot.2 ∙ ap (λ u. u.number)
          (same_value slot.0 mine.0 (sym slot.1 ∙ ap (get old) same ∙ mine.1)) ∙ mine.2) in
          (slot.0, gone.others s.slot away ∙ slot.1, slot.2),
      λ slot.
          let away : s.slot ≢ x.slot = λ same. let no : None ≡ Some slot.0 =
          sym gone.changed ∙ ap (get new) (sym same) ∙ slot.1 in cc in
          let was = (is.handles s).1 (slot.0, sym (gone.others s.slot away) ∙ slot.1, slot.2) in
          ⊎_elim
          (λ a. Contains-append_left (take i index) (drop (suc i) index) s a)
          (λ rest. ⊎_elim (λ one. absurd (away (ap (λ (y : Handle). y.slot) (sym one))))
          (λ b. Contains-append_right (take i index) (drop (suc i) index) s b) rest)
          (cases (take i index) x (drop (suc i) index) s (subst (λ l. Contains l s) all was)),
    );
  }
