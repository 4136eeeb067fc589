-- What each owner holds, in lists that stand in the order of their owners.
use Rattle.std.proofs.Common.{◌≡◌, ◌≢◌, ◌∙◌, ℕ, zero, suc, ◌<◌, ◌≤◌, ◌↔◌, ◌⊎◌, inl, inr, Bool}
use Rattle.std.proofs.Common.{List, [], ◌∷◌, ◌++◌, length, get_or, set, take, drop, refl, sym, ap}
use Rattle.std.proofs.Common.{subst, ⊎_elim, arith, IsTrue, take-append-drop}
use Rattle.std.proofs.Common.{Result, Ok, Err, false, true≢false}
use Rattle.std.specs.List.{All, Contains, insert, remove}
use Rattle.std.specs.List.Sorted.{IsSearchInRange, IsBinarySearchResult}
use Rattle.std.specs.Ordering.{nat_cmp}
use Rattle.std.proofs.lemmas.Bool.{cases_eq}
use Rattle.std.proofs.lemmas.List.{get_or_default, get_or-set_same, get_or-set_other}
use Rattle.std.proofs.lemmas.List.Concat.{flat_map-append}
use Rattle.std.proofs.lemmas.List.Elements.{All-append, All-cons, All-contains, All-get_or}
use Rattle.std.proofs.lemmas.List.Elements.{All-nil, All-push, All-set, All-tail, All-weaker}
use Rattle.std.proofs.lemmas.List.Elements.{All-from_get_or, All-drop, All-take}
use Rattle.std.proofs.lemmas.List.Elements.{Contains-append_left, Contains-append_right}
use Rattle.std.proofs.lemmas.List.Elements.{All-head, Contains-append_cases}
use Rattle.calls.proofs.Parts.{All-right, All-left, around}
use Rattle.calls.proofs.RisingKeys as rising
use Rattle.calls.proofs.RisingKeys.{IsOrder, IsGap, rise_at, others, none_in_gap, put, removed}
use Rattle.abstract_locks.specs.declared.table.Hold.{Hold}
use Rattle.abstract_locks.specs.Holds.{IsAdded, IsGivenUp}
use Rattle.abstract_locks.specs.Owners.{Listed, listed_at, all_noted, AreRising, IsGapFor}
use Rattle.abstract_locks.specs.Owners.{IsPlaceFor, HasItsOwn, IsSpare, HasPlaces, AreListed}
use Rattle.abstract_locks.specs.Owners.{IsKept, AreKept, unlisted, Noted}
use Rattle.abstract_locks.proofs.Gathered.{in_none, pushed_is_added}
use Rattle.abstract_locks.proofs.Granting.{added_at, added_before, added_behind}

-- ---- the order of the owners

-- the lists rise by their owners
by_owner : IsOrder (λ (l : Listed). l.owner) AreRising
by_owner = record {
  none = tt;
  above = λ l ls up. up.0;
  rest = λ l ls up. up.1;
  more = λ l ls above up. (above, up);
}

gap_of : (owner : ℕ) (ls : List Listed) (i : ℕ) → IsGapFor owner ls i →
    IsGap (λ (l : Listed). l.owner) owner ls i
gap_of owner ls i gap =
    record { within = gap.within; lesser = gap.lesser; greater = gap.greater }

rise_by_places : (xs : List Listed) → ((i j : ℕ) → i < j → j < length xs →
    (listed_at xs i).owner < (listed_at xs j).owner) → AreRising xs
rise_by_places [] up = tt
rise_by_places (x ∷ xs) up = (
  All-from_get_or (λ y. x.owner < y.owner) xs unlisted
      (λ j lt. up 0 (suc j) (omega arith) (omega arith)),
  rise_by_places xs (λ i j less lt. up (suc i) (suc j) (omega arith) (omega arith)),
)

-- one list is exchanged for another one of the same owner
rise_set : (xs : List Listed) (i : ℕ) (d new : Listed) → i < length xs →
    (get_or xs i d).owner ≡ new.owner → AreRising xs → AreRising (set xs i new)
rise_set [] i d new lt same up = tt
rise_set (x ∷ xs) zero d new lt same up =
    (subst (λ n. All (λ (y : Listed). n < y.owner) xs) same up.0, up.1)
rise_set (x ∷ xs) (suc i) d new lt same up = (
  All-set (λ (y : Listed). x.owner < y.owner) xs i new
      (subst (λ n. x.owner < n) same (up.0 i d (omega arith))) up.0,
  rise_set xs i d new (omega arith) same up.1,
)

-- where a halving ends
pub searched : (ls : List Listed) → AreRising ls → (owner : ℕ) (r : Result ℕ ℕ) →
    IsSearchInRange r (length ls) →
    IsBinarySearchResult (λ (x : Listed). nat_cmp x.owner owner) ls r → IsPlaceFor owner ls r
searched ls up owner (Ok i) in_range equal =
    rising.searched by_owner ls up owner (Ok i) in_range equal
searched ls up owner (Err i) in_range parted =
    let gap = rising.searched by_owner ls up owner (Err i) in_range parted in
    record { within = gap.within; lesser = gap.lesser; greater = gap.greater }

-- ---- whose holds they are

-- what is so of the owners is so of the owner of each hold
owner_of : (P : ℕ → Type 0) (ls : List Listed) → All HasItsOwn ls → All (λ l. P l.owner) ls →
    (h : Hold) → Contains (all_noted ls) h → P h.owner
owner_of P [] own all h there = in_none h there
owner_of P (l ∷ ls) own all h there =
    ⊎_elim
    (λ here. subst P
    (sym (All-contains (λ (h : Hold). h.owner ≡ l.owner) l.holds h (All-head HasItsOwn l ls own)
    here)) (All-head (λ (l : Listed). P l.owner) l ls all))
    (λ later. owner_of P ls (All-tail HasItsOwn l ls own)
    (All-tail (λ (l : Listed). P l.owner) l ls all) h later)
    (Contains-append_cases l.holds (all_noted ls) h there)

-- a list among others, and the holds of its owner
module _ (l : List Listed) (x : Listed) (r : List Listed) (up : AreRising (l ++ x ∷ r))
    (own : All HasItsOwn (l ++ x ∷ r)) where
  own_rest : All HasItsOwn (x ∷ r)
  own_rest = All-right HasItsOwn l (x ∷ r) own

  own_others : All HasItsOwn (l ++ r)
  own_others = All-append HasItsOwn l r (All-left HasItsOwn l (x ∷ r) own)
      (All-tail HasItsOwn x r own_rest)

  -- the others are others' holds
  not_its : (h : Hold) → Contains (all_noted (l ++ r)) h → h.owner ≢ x.owner
  not_its = owner_of (λ n. n ≢ x.owner) (l ++ r) own_others
      (others by_owner l x r up)

  its : (h : Hold) → Contains x.holds h → h.owner ≡ x.owner
  its h there = All-contains (λ (h : Hold). h.owner ≡ x.owner) x.holds h
      (All-head HasItsOwn x r own_rest) there

  joined : all_noted (l ++ x ∷ r) ≡ all_noted l ++ (x.holds ++ all_noted r)
  joined = flat_map-append (λ (y : Listed). y.holds) l (x ∷ r)

  others_joined : all_noted (l ++ r) ≡ all_noted l ++ all_noted r
  others_joined = flat_map-append (λ (y : Listed). y.holds) l r

  to_others : (h : Hold) → Contains (all_noted (l ++ x ∷ r)) h →
      Contains x.holds h ⊎ Contains (all_noted (l ++ r)) h
  to_others h there =
      ⊎_elim
      (λ a. inr (subst (λ m. Contains m h) (sym others_joined)
      (Contains-append_left (all_noted l) (all_noted r) h a)))
      (λ rest. ⊎_elim (λ here. inl here)
      (λ b. inr (subst (λ m. Contains m h) (sym others_joined)
      (Contains-append_right (all_noted l) (all_noted r) h b)))
      (Contains-append_cases x.holds (all_noted r) h rest))
      (Contains-append_cases (all_noted l) (x.holds ++ all_noted r) h
      (subst (λ m. Contains m h) joined there))

  from_its : (h : Hold) → Contains x.holds h → Contains (all_noted (l ++ x ∷ r)) h
  from_its h here = subst (λ m. Contains m h) (sym joined)
      (Contains-append_right (all_noted l) (x.holds ++ all_noted r) h
      (Contains-append_left x.holds (all_noted r) h here))

  from_others : (h : Hold) → Contains (all_noted (l ++ r)) h → Contains (all_noted (l ++ x ∷ r)) h
  from_others h there = subst (λ m. Contains m h) (sym joined)
      (⊎_elim (λ a. Contains-append_left (all_noted l) (x.holds ++ all_noted r) h a)
      (λ b. Contains-append_right (all_noted l) (x.holds ++ all_noted r) h
      (Contains-append_right x.holds (all_noted r) h b))
      (Contains-append_cases (all_noted l) (all_noted r) h
      (subst (λ m. Contains m h) others_joined there)))

  held_by : (h : Hold) → Contains x.holds h ↔
      (Contains (all_noted (l ++ x ∷ r)) h × (h.owner ≡ x.owner))
  held_by h = (
    λ here. (from_its h here, its h here),
    λ both. ⊎_elim (λ here. here) (λ other. absurd (not_its h other both.1)) (to_others h both.0),
  )

  left_by : IsGivenUp (all_noted (l ++ x ∷ r)) (all_noted (l ++ r)) x.owner
  left_by h = (
    λ other. (from_others h other, not_its h other),
    λ both. ⊎_elim (λ here. absurd (both.1 (its h here))) (λ other. other) (to_others h both.0),
  )

-- ---- a list that is found

module _ (ls spares : List Listed) (places : ℕ) (ready : Bool)
    (listed : AreListed ls spares places ready) (i : ℕ) (x : Listed) (lt : i < length ls)
    (at : x ≡ get_or ls i x) where
  whole : take i ls ++ x ∷ drop (suc i) ls ≡ ls
  whole = around ls i x lt at

  parts_rise : AreRising (take i ls ++ x ∷ drop (suc i) ls)
  parts_rise = subst AreRising (sym whole) listed.rising

  parts_own : All HasItsOwn (take i ls ++ x ∷ drop (suc i) ls)
  parts_own = subst (All HasItsOwn) (sym whole) listed.own

  -- it has all holds of its owner
  pub holds_of : (owner : ℕ) → x.owner ≡ owner → (h : Hold) →
      Contains x.holds h ↔ (Contains (all_noted ls) h × (h.owner ≡ owner))
  holds_of owner is h =
      subst (λ n. Contains x.holds h ↔ (Contains (all_noted ls) h × (h.owner ≡ n))) is
      (subst (λ l. Contains x.holds h ↔ (Contains (all_noted l) h × (h.owner ≡ x.owner))) whole
      (held_by (take i ls) x (drop (suc i) ls) parts_rise parts_own h))

  -- it is taken out
  pub taken_given_up : (owner : ℕ) → x.owner ≡ owner →
      IsGivenUp (all_noted ls) (all_noted (remove ls i)) owner
  taken_given_up owner is = subst (IsGivenUp (all_noted ls) (all_noted (remove ls i))) is
      (subst (λ l. IsGivenUp (all_noted l) (all_noted (remove ls i)) x.owner) whole
      (left_by (take i ls) x (drop (suc i) ls) parts_rise parts_own))

  pub taken_listed : (more : List Listed) (free : ℕ) → All IsSpare more →
      length spares ≤ length more → places ≤ free → AreListed (remove ls i) more free ready
  taken_listed more free empty longer wider = record {
    rising = removed by_owner ls listed.rising i x lt at;
    own = own_others (take i ls) x (drop (suc i) ls) parts_rise parts_own;
    empty = empty;
    places = λ is. let had = listed.places is in
        record {
          room = All-append (λ (l : Listed). 0 < l.room) (take i ls) (drop (suc i) ls)
              (All-take (λ (l : Listed). 0 < l.room) i ls had.room)
              (All-drop (λ (l : Listed). 0 < l.room) (suc i) ls had.room);
          place = let place = had.place in omega arith;
          spare = let spare = had.spare in omega arith;
        };
  }

  -- it gets a hold more
  module _ (h : Hold) (new : Listed) (is : x.owner ≡ h.owner) (owner : new.owner ≡ h.owner)
      (holds : new.holds ≡ x.holds ++ h ∷ []) where
    more_rising : AreRising (set ls i new)
    more_rising = rise_set ls i x new lt (ap (λ (l : Listed). l.owner) (sym at) ∙ is ∙ sym owner)
        listed.rising

    more_own : HasItsOwn new
    more_own = rw holds (All-push (λ (g : Hold). g.owner ≡ new.owner) x.holds h
        (All-weaker (λ (g : Hold). g.owner ≡ x.owner) (λ (g : Hold). g.owner ≡ new.owner)
        (λ g its. its ∙ is ∙ sym owner) x.holds
        (All-head HasItsOwn x (drop (suc i) ls)
        (All-right HasItsOwn (take i ls) (x ∷ drop (suc i) ls) parts_own)))
        (sym owner))

    pub more_listed : IsTrue ready → (now : Bool) → (IsTrue now → 0 < new.room) →
        AreListed (set ls i new) spares places now
    more_listed was now room = record {
      rising = more_rising;
      own = All-set HasItsOwn ls i new more_own listed.own;
      empty = listed.empty;
      places = λ so. let had = listed.places was in
          record {
            room = All-set (λ (l : Listed). 0 < l.room) ls i new (room so) had.room;
            place = had.place;
            spare = had.spare;
          };
    }

    pub more_noted : IsAdded (all_noted ls) (all_noted (set ls i new)) h
    more_noted = added_at (λ (l : Listed). l.holds) ls i x new h lt
        (subst (λ (l : Listed). IsAdded l.holds new.holds h) at
        (rw holds (pushed_is_added x.holds h)))

-- ---- an owner that has no list

module _ (ls spares : List Listed) (places : ℕ) (ready : Bool)
    (listed : AreListed ls spares places ready) (owner i : ℕ) (gap : IsGapFor owner ls i) where
  pub nothing_of : (h : Hold) → Contains (all_noted ls) h → h.owner ≢ owner
  nothing_of = owner_of (λ n. n ≢ owner) ls listed.own
      (none_in_gap (λ (l : Listed). l.owner) owner ls i (gap_of owner ls i gap))

  -- its own is put in
  module _ (h : Hold) (new : Listed) (is : h.owner ≡ owner) (its : new.owner ≡ h.owner)
      (holds : new.holds ≡ h ∷ []) where
    put_all : (P : Listed → Type 0) → P new → All P ls → All P (insert ls i new)
    put_all P one all = All-append P (take i ls) (new ∷ drop i ls) (All-take P i ls all)
        (All-cons P new (drop i ls) one (All-drop P i ls all))

    put_own : HasItsOwn new
    put_own = rw holds (All-push (λ (g : Hold). g.owner ≡ new.owner) [] h
        (All-nil (λ (g : Hold). g.owner ≡ new.owner)) (sym its))

    pub put_listed : IsTrue ready → (left : List Listed) (free : ℕ) → All IsSpare left →
        (now : Bool) → (IsTrue now → (0 < new.room) × (0 < free) × (0 < length left)) →
        AreListed (insert ls i new) left free now
    put_listed was left free empty now has = record {
      rising = put by_owner ls i new listed.rising
          (subst (λ n. IsGap (λ (l : Listed). l.owner) n ls i) (sym (its ∙ is))
          (gap_of owner ls i gap));
      own = put_all HasItsOwn put_own listed.own;
      empty = empty;
      places = λ so. let now = has so in
          record {
            room = put_all (λ (l : Listed). 0 < l.room) now.0 (listed.places was).room;
            place = now.1;
            spare = now.2;
          };
    }

    pub put_noted : IsAdded (all_noted ls) (all_noted (insert ls i new)) h
    put_noted =
        subst (λ l. IsAdded (all_noted l) (all_noted (insert ls i new)) h) (take-append-drop i ls)
        (rw (
          flat_map-append (λ (l : Listed). l.holds) (take i ls) (drop i ls),
          flat_map-append (λ (l : Listed). l.holds) (take i ls) (new ∷ drop i ls),
        )
        (added_behind (all_noted (drop i ls)) (new.holds ++ all_noted (drop i ls)) h
        (added_before [] new.holds h (rw holds (pushed_is_added [] h)) (all_noted (drop i ls)))
        (all_noted (take i ls))))

-- ---- room for more

pub kept_set : (xs ys : List Listed) (i : ℕ) (new : Listed) → AreKept xs ys → i < length ys →
    IsKept (listed_at ys i) new → AreKept xs (set ys i new)
kept_set xs ys i new kept lt is j =
    ⊎_elim
    (λ same. let here : new ≡ listed_at (set ys i new) j =
    sym (ap (listed_at (set ys i new)) same ∙ get_or-set_same ys i new unlisted lt) in
    let was : IsKept (listed_at xs j) (listed_at ys i) =
    subst (λ k. IsKept (listed_at xs j) (listed_at ys k)) same (kept j) in
    subst (IsKept (listed_at xs j)) here
    (record { owner = is.owner ∙ was.owner; holds = is.holds ∙ was.holds }))
    (λ other. subst (IsKept (listed_at xs j)) (sym (get_or-set_other ys i j new unlisted other))
    (kept j))
    (cases_eq j i)

-- what stands in a place is listed there
pub listed_is : (ls : List Listed) (i : ℕ) (l : Listed) → i < length ls → l ≡ get_or ls i l →
    l ≡ listed_at ls i
listed_is ls i l lt is = is ∙ get_or_default ls i l unlisted lt

pub kept_noted : (xs ys : List Listed) → AreKept xs ys → all_noted ys ≡ all_noted xs
kept_noted [] [] kept = refl
kept_noted [] (y ∷ ys) kept =
    ap (λ l. l ++ all_noted ys) (kept 0).holds ∙ kept_noted [] ys (λ i. kept (suc i))
kept_noted (x ∷ xs) [] kept =
    kept_noted xs [] (λ i. kept (suc i)) ∙ ap (λ l. l ++ all_noted xs) (kept 0).holds
kept_noted (x ∷ xs) (y ∷ ys) kept =
    ap (λ l. l ++ all_noted ys) (kept 0).holds
    ∙ ap (λ l. x.holds ++ l) (kept_noted xs ys (λ i. kept (suc i)))

-- what is noted stays as it is seen
pub still_shown : (xs ys : List Listed) {ready : Bool} {was : Noted} → AreKept xs ys →
    record { holds = all_noted xs; ready = ready } ≡ was →
    record { holds = all_noted ys; ready = ready } ≡ was
still_shown xs ys {ready} kept is =
    ap (λ l. record { holds = l; ready = ready }) (kept_noted xs ys kept) ∙ is

pub still_noted : (xs ys : List Listed) {ready : Bool} {was : Noted} → AreKept xs ys →
    record { holds = all_noted xs; ready = ready } ≡ was → all_noted ys ≡ was.holds
still_noted xs ys kept is = ap (λ (n : Noted). n.holds) (still_shown xs ys kept is)

module _ (xs ys : List Listed) (kept : AreKept xs ys) (len : length ys ≡ length xs) where
  kept_rising : AreRising xs → AreRising ys
  kept_rising up = rise_by_places ys
      (λ i j less lt. rw ((kept i).owner, (kept j).owner)
      (rise_at by_owner xs i j unlisted up less (omega arith)))

  kept_own : All HasItsOwn xs → All HasItsOwn ys
  kept_own own = All-from_get_or HasItsOwn ys unlisted
      (λ i lt. rw ((kept i).owner, (kept i).holds)
      (All-get_or HasItsOwn xs i unlisted (omega arith) own))

  pub kept_listed : {spares more : List Listed} {places free : ℕ} {old new : Bool} →
      AreListed xs spares places old → All IsSpare more →
      (IsTrue new → HasPlaces ys more free) → AreListed ys more free new
  kept_listed listed empty has = record {
    rising = kept_rising listed.rising;
    own = kept_own listed.own;
    empty = empty;
    places = has;
  }

  -- what is not ready asks for no places
  pub unready_listed : {spares more : List Listed} {places free : ℕ} {ready : Bool} →
      ready ≡ false → AreListed xs spares places ready → All IsSpare more →
      AreListed ys more free ready
  unready_listed is listed empty =
      kept_listed listed empty (λ now. absurd (true≢false (sym now ∙ is)))
