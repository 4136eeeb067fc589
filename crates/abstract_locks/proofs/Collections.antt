-- What is held on one collection, and in the whole table.
use Rattle.std.proofs.Common.{◌≡◌, ◌≢◌, ◌∙◌, ◌↔◌, ℕ, zero, suc, ◌<◌, ◌≤◌, Bool, true, false, cond}
use Rattle.std.proofs.Common.{List, [], ◌∷◌, ◌++◌, map, length, get_or, set, refl, sym, ap, subst}
use Rattle.std.proofs.Common.{⊎_elim, inl, inr, arith, Result, Ok, Err, IfErr, IsOk, OnErr}
use Rattle.std.specs.List.{All, Contains, range_with_len}
use Rattle.std.proofs.lemmas.Bool.{cases_lt, cases_eq}
use Rattle.std.proofs.lemmas.List.{get_or_past, get_or_default, get_or-set_same}
use Rattle.std.proofs.lemmas.List.{get_or-set_other, set-get_or}
use Rattle.std.proofs.lemmas.List.Elements.{All-weaker, All-contains, All-contains_itself, All-nil}
use Rattle.std.proofs.lemmas.List.Elements.{Contains-append_left, Contains-push}
use Rattle.std.proofs.lemmas.List.Elements.{Contains-push_cases}
use Rattle.std.proofs.lemmas.List.FromFn.{get_or-map-range_with_len, length-map-range_with_len}
use Rattle.calls.specs.declared.need.Need.{Need}
use Rattle.calls.specs.declared.refusal.Refusal.{Refusal}
use Rattle.abstract_locks.specs.declared.table.Hold.{Hold}
use Rattle.abstract_locks.specs.Claimed.{Claimed, nothing}
use Rattle.abstract_locks.specs.Collections.{held_on, all_held, rooms, AreOnTheirOwn, AreAlike}
use Rattle.abstract_locks.specs.Collections.{AreInTable, AreWithout}
use Rattle.abstract_locks.specs.Holds.{Holdings, Blocks, IsClear, IsBusy, IsAdded, IsGivenUp}
use Rattle.abstract_locks.specs.Holds.{IsRemoved, IsBusyRefusal, HasRoom}
use Rattle.abstract_locks.proofs.Gathered.{in_none, in_one, from_one, is_there}
use Rattle.abstract_locks.proofs.Granting.{added_at, all_still}

-- A table with these collections, as contracts see it.
abbrev pub held_by : List Claimed → (ready : Bool) → Holdings
held_by cs ready = record { holds = all_held cs; rooms = rooms cs ready }

-- ---- room

-- each collection has its own room, where the owners' lists have some
room_at : (cs : List Claimed) (ready : Bool) (at : ℕ) → at < 256 →
    get_or (rooms cs ready) at 0 ≡ cond ready (held_on cs at).room 0
unfolding rooms
room_at cs ready at lt =
    get_or-map-range_with_len (λ at. cond ready (held_on cs at).room 0) 0 256 at at 0 lt
    (omega arith)

past : (cs : List Claimed) (ready : Bool) (at : ℕ) → 256 ≤ at → get_or (rooms cs ready) at 0 ≡ 0
unfolding rooms
past cs ready at le =
    let long = length-map-range_with_len (λ at. cond ready (held_on cs at).room 0) 0 256 in
    get_or_past (map (λ at. cond ready (held_on cs at).room 0) (range_with_len 0 256)) at 0
    (omega arith)

room_here : (cs : List Claimed) (at : ℕ) → at < 256 → 0 < (held_on cs at).room →
    0 < get_or (rooms cs true) at 0
room_here cs at lt pos = rw (room_at cs true at lt) pos

no_room : (cs : List Claimed) (at : ℕ) → 0 < get_or (rooms cs false) at 0 → ⊥
no_room cs at pos =
    ⊎_elim (λ lt. let is = room_at cs false at lt in omega arith)
    (λ le. let none = past cs false at le in omega arith) (cases_lt at 256)

some_room : (cs : List Claimed) (ready : Bool) (at : ℕ) → 0 < get_or (rooms cs ready) at 0 →
    (0 < (held_on cs at).room) × (ready ≡ true)
some_room cs true at pos = (
  ⊎_elim (λ lt. let is = room_at cs true at lt in omega arith)
      (λ le. let none = past cs true at le in absurd (omega arith)) (cases_lt at 256),
  refl,
)
some_room cs false at pos = absurd (no_room cs at pos)

-- a collection with room has a place
has_place : (cs : List Claimed) (at : ℕ) → 0 < (held_on cs at).room → at < length cs
has_place cs at pos =
    ⊎_elim (λ lt. lt)
    (λ le. let is = ap (λ (c : Claimed). c.room) (get_or_past cs at nothing le) in
    absurd (omega arith)) (cases_lt at (length cs))

-- where a table shows room the collection has room and a place, and the owners' lists have room
pub shown_room : (cs : List Claimed) (ready : Bool) {table : Holdings} {at i : ℕ} →
    held_by cs ready ≡ table → HasRoom table at → i ≡ at →
    (0 < (held_on cs i).room) × (i < length cs) × (ready ≡ true)
shown_room cs ready {table} {at} {i} is had same =
    let some = some_room cs ready at (subst (λ t. HasRoom t at) (sym is) had) in
    let room : 0 < (held_on cs i).room = rw same some.0 in
    (room, has_place cs i room, some.1)

-- what stands in a place is held on the collection
pub found_at : (cs : List Claimed) (i : ℕ) (c : Claimed) → i < length cs → c ≡ get_or cs i c →
    c ≡ held_on cs i
found_at cs i c lt is = is ∙ get_or_default cs i c nothing lt

pub room_set : (cs : List Claimed) (i at : ℕ) (c : Claimed) → i ≡ at → i < length cs → at < 256 →
    0 < c.room → 0 < get_or (rooms (set cs i c) true) at 0
room_set cs i at c same lt fits pos = room_here (set cs i c) at fits
    (rw (← same, get_or-set_same cs i c nothing lt) pos)

-- where no room is lost each collection keeps its own
pub rooms_stay : (xs ys : List Claimed) (old new : Bool) → (old ≡ true → new ≡ true) →
    ((at : ℕ) → (held_on xs at).room ≤ (held_on ys at).room) → (at : ℕ) →
    0 < get_or (rooms xs old) at 0 → 0 < get_or (rooms ys new) at 0
rooms_stay xs ys old new ready more at pos =
    let some = some_room xs old at pos in
    ⊎_elim
    (λ lt. let le = more at in let one = some.0 in
    subst (λ b. 0 < get_or (rooms ys b) at 0) (sym (ready some.1))
    (room_here ys at lt (omega arith)))
    (λ le. let none = past xs old at le in absurd (omega arith)) (cases_lt at 256)

pub same_rooms : (xs ys : List Claimed) (ready : Bool) →
    ((at : ℕ) → held_on ys at ≡ held_on xs at) → rooms ys ready ≡ rooms xs ready
unfolding rooms
same_rooms xs ys ready each i = map (λ at. cond ready (each at i).room 0) (range_with_len 0 256)

-- where the owners' lists have no room there is none
pub no_rooms : (xs ys : List Claimed) → rooms ys false ≡ rooms xs false
unfolding rooms
no_rooms xs ys = refl

pub alike_shown : (xs ys : List Claimed) (ready : Bool) → AreAlike xs ys →
    held_by ys ready ≡ held_by xs ready
alike_shown xs ys ready alike =
    let same = same_rooms xs ys ready alike.each in
    λ i. record { holds = alike.all i; rooms = same i }

-- ---- what is held

pub in_all : (cs : List Claimed) (at : ℕ) (h : Hold) → Contains (held_on cs at).holds h →
    Contains (all_held cs) h
in_all = in_one (λ (c : Claimed). c.holds) nothing refl

from_all : (cs : List Claimed) (h : Hold) → Contains (all_held cs) h →
    (at : ℕ) × Contains (held_on cs at).holds h
from_all = from_one (λ (c : Claimed). c.holds) nothing refl

-- what is held is held on its own collection
own_place : (cs : List Claimed) → AreOnTheirOwn cs → (h : Hold) → Contains (all_held cs) h →
    Contains (held_on cs h.at).holds h
own_place cs own h there =
    let found = from_all cs h there in
    let is = All-contains (λ (h : Hold). h.at ≡ found.0) (held_on cs found.0).holds h (own found.0)
    found.1
    in
    subst (λ at. Contains (held_on cs at).holds h) (sym is) found.1

pub own_set : (cs : List Claimed) → AreOnTheirOwn cs → (i : ℕ) (c : Claimed) → i < length cs →
    All (λ (h : Hold). h.at ≡ i) c.holds → AreOnTheirOwn (set cs i c)
own_set cs own i c lt all at =
    ⊎_elim
    (λ same.
    subst (λ k. All (λ (h : Hold). h.at ≡ k) (held_on (set cs i c) k).holds) (sym same)
    (rw (get_or-set_same cs i c nothing lt) all))
    (λ other. rw (get_or-set_other cs i at c nothing other) (own at)) (cases_eq at i)

-- ---- a need that is asked for

module _ (cs : List Claimed) (own : AreOnTheirOwn cs) (owner at : ℕ) (need : Need) where
  -- what is free on the collection is free
  pub clear_of_all : IsClear (held_on cs at).holds owner at need →
      IsClear (all_held cs) owner at need
  clear_of_all clear = All-weaker (Contains (all_held cs)) (λ h. Blocks owner at need h → ⊥)
      (λ h there b. All-contains (λ h. Blocks owner at need h → ⊥) (held_on cs at).holds h clear
      (subst (λ k. Contains (held_on cs k).holds h) b.1 (own_place cs own h there)) b)
      (all_held cs) (All-contains_itself (all_held cs))

  pub busy_of_all : (n : ℕ) → IsBusy (held_on cs at).holds owner at need n →
      IsBusy (all_held cs) owner at need n
  busy_of_all n busy =
      let any = busy.blocked in
      let there = in_all cs at any.1 (any.0, any.2, any.3) in
      record {
        blocked = (there.0, any.1, there.1, there.2, any.4);
        least = All-weaker (Contains (all_held cs)) (λ h. Blocks owner at need h → n ≤ h.owner)
            (λ h there b. All-contains (λ h. Blocks owner at need h → n ≤ h.owner)
            (held_on cs at).holds h busy.least
            (subst (λ k. Contains (held_on cs k).holds h) b.1 (own_place cs own h there)) b)
            (all_held cs) (All-contains_itself (all_held cs));
      }

  pub refusal_of_all : (r : Refusal) → IsBusyRefusal (held_on cs at).holds owner at need r →
      IsBusyRefusal (all_held cs) owner at need r
  refusal_of_all (Refusal.Busy n) busy = busy_of_all n busy
  refusal_of_all r other = absurd other

  -- what the collection answers is so for the table
  pub test_of_all : (r : Result (Unit {0}) Refusal) →
      IfErr r (IsBusyRefusal (held_on cs at).holds owner at need) →
      IfErr r (IsBusyRefusal (all_held cs) owner at need)
  test_of_all (Ok x) busy = busy
  test_of_all (Err r) busy = refusal_of_all r busy

  pub clear_past : length cs ≤ at → IsClear (all_held cs) owner at need
  clear_past le = clear_of_all (rw (get_or_past cs at nothing le)
      (All-nil (λ h. Blocks owner at need h → ⊥)))

-- one collection gets room
pub all_set : (cs : List Claimed) (i : ℕ) (c : Claimed) →
    c.holds ≡ (held_on cs i).holds → all_held (set cs i c) ≡ all_held cs
all_set [] i c same = refl
all_set (x ∷ xs) zero c same = ap (λ l. l ++ all_held xs) same
all_set (x ∷ xs) (suc i) c same = ap (λ l. x.holds ++ l) (all_set xs i c same)

-- where it stays as it was all does
pub same_set : (cs : List Claimed) (ready : Bool) (i : ℕ) (c : Claimed) → c ≡ held_on cs i →
    held_by (set cs i c) ready ≡ held_by cs ready
same_set cs ready i c is =
    ap (λ l. held_by l ready) (ap (set cs i) is ∙ set-get_or cs i nothing)

pub more_at : (cs : List Claimed) (i : ℕ) (c : Claimed) → i < length cs →
    (held_on cs i).room ≤ c.room → (at : ℕ) →
    (held_on cs at).room ≤ (held_on (set cs i c) at).room
more_at cs i c lt le at =
    ⊎_elim
    (λ same.
    subst (λ k. (held_on cs k).room ≤ (held_on (set cs i c) k).room) (sym same)
    (rw (get_or-set_same cs i c nothing lt) le))
    (λ other. rw (get_or-set_other cs i at c nothing other) (omega arith)) (cases_eq at i)

-- ---- room is made

-- one collection, which may have got its place just now, gets room for more
module _ (xs ys : List Claimed) (alike : AreAlike xs ys) (i : ℕ) (lt : i < length ys)
    (old new : Claimed) (stood : old ≡ get_or ys i old) (holds : new.holds ≡ old.holds) where
  here : old ≡ held_on ys i
  here = found_at ys i old lt stood

  pub reserved_held : all_held (set ys i new) ≡ all_held xs
  reserved_held = all_set ys i new (holds ∙ ap (λ (c : Claimed). c.holds) here) ∙ alike.all

  pub reserved_room : old.room ≤ new.room → (at : ℕ) →
      (held_on xs at).room ≤ (held_on (set ys i new) at).room
  reserved_room more at = subst (λ (c : Claimed). c.room ≤ (held_on (set ys i new) at).room)
      (alike.each at)
      (more_at ys i new lt (subst (λ (c : Claimed). c.room ≤ new.room) here more) at)

  pub reserved_in_table : (noted : List Hold) → AreInTable xs noted →
      AreInTable (set ys i new) noted
  reserved_in_table noted table = record {
    own = own_set ys (λ at. rw (alike.each at) (table.own at)) i new lt
        (rw (holds, here, alike.each i) (table.own i));
    listed = λ h there. table.listed h (subst (λ l. Contains l h) reserved_held there);
  }

  -- where the table shows room the collection had some, and so had the owners' lists
  pub had_room : (ready : Bool) (table : Holdings) (at : ℕ) → held_by xs ready ≡ table →
      HasRoom table at → i ≡ at → (0 < old.room) × (ready ≡ true)
  had_room ready table at is had same =
      let shown = shown_room xs ready is had same in
      (subst (λ (c : Claimed). 0 < c.room) (sym (here ∙ alike.each i)) shown.0, shown.2)

  -- where it gets none all is as it was
  pub unreserved_shown : (ready : Bool) → new ≡ old →
      held_by (set ys i new) ready ≡ held_by xs ready
  unreserved_shown ready same =
      same_set ys ready i new (same ∙ here) ∙ alike_shown xs ys ready alike

-- where the owners' lists get no room there was none before
pub refused_shown : (r : Result (Unit {0}) Refusal) (xs ys : List Claimed) (old new : Bool) →
    (old ≡ true → IsOk r) → OnErr r (new ≡ old) → all_held ys ≡ all_held xs →
    OnErr r (held_by ys new ≡ held_by xs old)
refused_shown (Ok x) xs ys old new ok same all = tt
refused_shown (Err e) xs ys true new ok same all = let wrong = ok refl in cc
refused_shown (Err e) xs ys false new ok same all =
    ap (held_by ys) same ∙ (λ i. record { holds = all i; rooms = no_rooms xs ys i })

-- ---- a hold is granted

module _ (cs : List Claimed) (ready : Bool) (new : Claimed) {shown : Holdings} {h : Hold} {i : ℕ}
    {old : Claimed} (is : held_by cs ready ≡ shown) (room : HasRoom shown h.at) (same : i ≡ h.at)
    (stood : old ≡ get_or cs i old) (added : IsAdded old.holds new.holds h) where
  lt : i < length cs
  lt = (shown_room cs ready is room same).1

  added_here : IsAdded (held_on cs i).holds new.holds h
  added_here = subst (λ (c : Claimed). IsAdded c.holds new.holds h) (found_at cs i old lt stood)
      added

  -- all hold what they held, and the one besides
  pub added_to_all : IsAdded (all_held cs) (all_held (set cs i new)) h
  added_to_all = added_at (λ (c : Claimed). c.holds) cs i nothing new h lt added_here

  module _ (noted : List Hold) (table : AreInTable cs noted) where
    -- where its owner has it too, beside what was noted
    in_table : (more : List Hold) → ((g : Hold) → Contains noted g → Contains more g) →
        Contains more h → AreInTable (set cs i new) more
    in_table more kept has = record {
      own = own_set cs table.own i new lt
          (all_still (held_on cs i).holds new.holds h added_here (λ (g : Hold). g.at ≡ i) (sym same)
          (table.own i));
      listed = λ g there.
          ⊎_elim (λ old. kept g (table.listed g old))
          (λ one. subst (Contains more) (sym one) has) ((added_to_all g).0 there);
    }

    pub noted_in_table : (more : List Hold) → IsAdded noted more h → AreInTable (set cs i new) more
    noted_in_table more add = in_table more (λ g there. (add g).1 (inl there))
        ((add h).1 (inr refl))

    -- where the collection has it already its owner has it
    pub known_in_table : ((Contains old.holds h → ⊥) → ⊥) → AreInTable (set cs i new) noted
    known_in_table no_miss =
        in_table noted (λ g there. there)
        (table.listed h (in_all cs i h (subst (λ (c : Claimed). Contains c.holds h)
        (found_at cs i old lt stood) (is_there old.holds h no_miss))))

-- ---- holds are taken out

pub none_gone : (cs : List Claimed) → AreOnTheirOwn cs → AreWithout [] cs cs
none_gone cs own = record {
  own = own;
  holds = λ h. (λ there. (there, λ gone. in_none h gone), λ both. both.0);
  room = λ at. omega arith;
}

module _ (gone : List Hold) (xs ys : List Claimed) (without : AreWithout gone xs ys)
    (h : Hold) where
  -- one more is taken out of its collection
  module _ (i : ℕ) (new : Claimed) (same : i ≡ h.at) (lt : i < length ys)
      (removed : IsRemoved (held_on ys i).holds new.holds h)
      (room : (held_on ys i).room ≤ new.room) where
    own_still : AreOnTheirOwn (set ys i new)
    own_still = own_set ys without.own i new lt
        (All-weaker (Contains new.holds) (λ (g : Hold). g.at ≡ i)
        (λ g there. All-contains (λ (g : Hold). g.at ≡ i) (held_on ys i).holds g (without.own i)
        ((removed g).0 there).0)
        new.holds (All-contains_itself new.holds))

    -- what is held then was held before, and is not the one
    was_held : (g : Hold) → Contains (all_held (set ys i new)) g →
        Contains (all_held ys) g × (g ≢ h)
    was_held g there =
        let here = own_place (set ys i new) own_still g there in
        ⊎_elim
        (λ is. let both = (removed g).0 (subst (λ (c : Claimed). Contains c.holds g)
        (ap (held_on (set ys i new)) is ∙ get_or-set_same ys i new nothing lt) here) in
        (in_all ys i g both.0, both.1))
        (λ other. (
          in_all ys g.at g (subst (λ (c : Claimed). Contains c.holds g)
              (get_or-set_other ys i g.at new nothing other) here),
          λ one. other (ap (λ (g : Hold). g.at) one ∙ sym same),
        ))
        (cases_eq g.at i)

    still_held : (g : Hold) → Contains (all_held ys) g → g ≢ h →
        Contains (all_held (set ys i new)) g
    still_held g there other =
        let here = own_place ys without.own g there in
        ⊎_elim
        (λ is. in_all (set ys i new) i g (subst (λ (c : Claimed). Contains c.holds g)
        (sym (get_or-set_same ys i new nothing lt))
        ((removed g).1 (subst (λ k. Contains (held_on ys k).holds g) is here, other))))
        (λ apart. in_all (set ys i new) g.at g (subst (λ (c : Claimed). Contains c.holds g)
        (sym (get_or-set_other ys i g.at new nothing apart)) here))
        (cases_eq g.at i)

    pub one_gone : AreWithout (gone ++ h ∷ []) xs (set ys i new)
    one_gone = record {
      own = own_still;
      holds = λ g. (
        λ there. let was = was_held g there in
            let old = (without.holds g).0 was.0 in (
              old.0,
              λ out. ⊎_elim old.1 (λ is. was.1 (sym is))
                  (Contains-push_cases gone h g out),
            ),
        λ both. still_held g
            ((without.holds g).1 (both.0, λ out. both.1 (Contains-append_left gone (h ∷ []) g out)))
            (λ is. both.1 (subst (Contains (gone ++ h ∷ [])) (sym is) (Contains-push gone h))),
      );
      room = λ at. let one = without.room at in let more = more_at ys i new lt room at in
          omega arith;
    }

  -- one whose collection has no place is not held
  pub not_there : length ys ≤ h.at → AreWithout (gone ++ h ∷ []) xs ys
  not_there le = record {
    own = without.own;
    holds = λ g. (
      λ there. let old = (without.holds g).0 there in (
        old.0,
        λ out. ⊎_elim old.1
            (λ is. in_none g (subst (λ (c : Claimed). Contains c.holds g)
            (ap (λ (g : Hold). held_on ys g.at) (sym is) ∙ get_or_past ys h.at nothing le)
            (own_place ys without.own g there)))
            (Contains-push_cases gone h g out),
      ),
      λ both. (without.holds g).1
          (both.0, λ out. both.1 (Contains-append_left gone (h ∷ []) g out)),
    );
    room = without.room;
  }

-- ---- an owner gives up

-- all that the owner holds is taken out, and no more is noted
module _ (owner : ℕ) (xs ys : List Claimed) (noted left gone : List Hold)
    (table : AreInTable xs noted) (without : AreWithout gone xs ys)
    (of : (h : Hold) → Contains gone h ↔ (Contains noted h × (h.owner ≡ owner)))
    (given_up : IsGivenUp noted left owner) where
  pub all_given_up : IsGivenUp (all_held xs) (all_held ys) owner
  all_given_up h = (
    λ there. let both = (without.holds h).0 there in
        (both.0, λ mine. both.1 ((of h).1 (table.listed h both.0, mine))),
    λ both. (without.holds h).1 (both.0, λ out. both.1 ((of h).0 out).1),
  )

  pub left_in_table : AreInTable ys left
  left_in_table = record {
    own = without.own;
    listed = λ h there. let both = (all_given_up h).0 there in
        (given_up h).1 (table.listed h both.0, both.1);
  }
