-- The live transactions in the slots, seen as a finite map, and who has room.
use Rattle.std.proofs.Common.{◌≡◌, ◌≢◌, ℕ, suc, zero, ◌<◌, ◌≤◌, ◌+◌, IfSome, IfNone, ◌⊎◌, inl}
use Rattle.std.proofs.Common.{inr, ⊎_elim, Bool, true, false, cond, Option, Some, None, is_some}
use Rattle.std.proofs.Common.{List, [], ◌∷◌, get_or, count_by, refl, sym, ap, subst, ◌∙◌, ltb}
use Rattle.std.proofs.Common.{arith, set, vec_len, vec_capacity, ◌-◌, ◌^◌}
use Rattle.std.specs.List.{Contains}
use Rattle.std.specs.Ordering.{nat_cmp}
use Rattle.std.specs.Cmp.{nat_cmp_total}
use Rattle.std.specs.FinMap as maps
use Rattle.std.proofs.lemmas.Bool.{cases_eq, lt-ltb, ltb-true}
use Rattle.std.proofs.lemmas.Grind.{common_steps}
use Rattle.std.proofs.lemmas.List.Elements.{Contains-push, Contains-append_left}
use Rattle.std.proofs.lemmas.List.Elements.{Contains-append_right, Contains-append_cases}
use Rattle.slab.specs.Slab.{Slab, get, Updates}
use Rattle.calls.proofs.Parts.{only}
use Rattle.calls.proofs.Points.{get_insert, get_insert_other, get_remove, get_remove_other}
use Rattle.undo_log.specs.declared.live.Transaction.{Transaction}
use Rattle.undo_log.specs.Logs.{Statuses, statuses, live_of, roomy, rooms_of, fallen, EachOnce}
use Rattle.undo_log.specs.Logs.{IsSlotOf}
use Rattle.undo_log.specs.Logs.{Lives, IsLeastLive, IsLeastSlot, IsNextLive, IsNextSlot}

abbrev pub Once : List (Option Transaction) → Type 0
Once slots = (i j : ℕ) (t u : Transaction) → get_or slots i None ≡ Some t →
    get_or slots j None ≡ Some u → t.number ≡ u.number → i ≡ j

pub once_rest : (x : Option Transaction) (rest : List (Option Transaction)) → Once (x ∷ rest) →
    Once rest
once_rest x rest once i j t u a b e = let same : suc i ≡ suc j = once (suc i) (suc j) t u a b e in
    omega arith

pub same_value : {X : Type 0} (x y : X) → Some x ≡ Some y → x ≡ y
same_value x y e = cc

-- what a slot holds is in the map
at_slot : (slots : List (Option Transaction)) (k : ℕ) (t : Transaction) → Once slots →
    get_or slots k None ≡ Some t → maps.get (maps.from_entries {R = nat_cmp} (statuses slots))
    t.number ≡ Some t.falling
at_slot [] k t once h = cc
at_slot (None ∷ rest) zero t once h = cc
at_slot (None ∷ rest) (suc k) t once h = at_slot rest k t (once_rest None rest once) h
at_slot (Some u ∷ rest) zero t once h =
    let same = same_value u t h in
    subst (λ v. maps.get (maps.from_entries {R = nat_cmp} (statuses (Some u ∷ rest))) v.number ≡
    Some v.falling) same (get_insert (maps.from_entries (statuses rest)) u.number u.falling
    u.number refl)
at_slot (Some u ∷ rest) (suc k) t once h =
    get_insert_other (maps.from_entries (statuses rest)) u.number u.falling t.number
    (λ same. let no : suc k ≡ 0 = once (suc k) 0 t u h refl same in omega arith)
    ∙ at_slot rest k t (once_rest (Some u) rest once) h

-- what is in the map is in a slot
from_slot : (slots : List (Option Transaction)) (n : ℕ) (b : Bool) →
    maps.get (maps.from_entries {R = nat_cmp} (statuses slots)) n ≡ Some b →
    (k : ℕ) × (t : Transaction) × (get_or slots k None ≡ Some t) × (t.number ≡ n) × (t.falling ≡ b)
from_slot [] n b h = let none = maps.get-empty {X = Bool} nat_cmp n in cc
from_slot (None ∷ rest) n b h = let r = from_slot rest n b h in (suc r.0, r.1, r.2, r.3, r.4)
from_slot (Some u ∷ rest) n b h =
    ⊎_elim
    (λ (same : n ≡ u.number). (
      0,
      u,
      refl,
      sym same,
      same_value u.falling b (sym (get_insert (maps.from_entries (statuses rest)) u.number
          u.falling n same) ∙ h),
    ))
    (λ (other : n ≡ u.number → ⊥). let r =
    from_slot rest n b (sym (get_insert_other (maps.from_entries (statuses rest)) u.number
    u.falling n other) ∙ h) in (suc r.0, r.1, r.2, r.3, r.4))
    (cases_eq n u.number)

count_some : (u : Transaction) (rest : List (Option Transaction)) →
    count_by is_some (Some u ∷ rest) ≡ count_by is_some rest + 1
count_some u rest = grind (arith, common_steps)

count_none : (rest : List (Option Transaction)) →
    count_by {X = Option Transaction} is_some (None ∷ rest) ≡ count_by is_some rest
count_none rest = grind (arith, common_steps)

not_some : {X : Type 0} (o : Option X) → ((x : X) → o ≡ Some x → ⊥) → is_some o ≡ false
not_some None h = refl
not_some (Some x) h = absurd (h x refl)

len_slots : (slots : List (Option Transaction)) → Once slots →
    maps.len (maps.from_entries {R = nat_cmp} (statuses slots)) ≡ count_by is_some slots
len_slots [] once = maps.len-empty nat_cmp Bool
len_slots (None ∷ rest) once = len_slots rest (once_rest None rest once) ∙ sym (count_none rest)
len_slots (Some u ∷ rest) once =
    let m : Statuses = maps.from_entries (statuses rest) in
    let absent : maps.contains_key m u.number ≡ false =
    not_some (maps.get m u.number) (λ b h. let r = from_slot rest u.number b h in
    let no : suc r.0 ≡ 0 = once (suc r.0) 0 r.1 u r.2 refl r.3 in omega arith) in
    maps.len-insert nat_cmp_total m u.number u.falling ∙
    ap (λ b. cond b (maps.len m) (maps.len m + 1)) absent
    ∙ ap (λ k. k + 1) (len_slots rest (once_rest (Some u) rest once)) ∙ sym (count_some u rest)

same_option : {X : Type 0} (o p : Option X) → ((x : X) → o ≡ Some x → p ≡ Some x) →
    ((x : X) → p ≡ Some x → o ≡ Some x) → o ≡ p
same_option None None f g = refl
same_option None (Some x) f g = g x refl
same_option (Some x) p f g = sym (f x refl)

pub same_statuses : (m n : Statuses) →
    ((q : ℕ) (b : Bool) → maps.get m q ≡ Some b → maps.get n q ≡ Some b) →
    ((q : ℕ) (b : Bool) → maps.get n q ≡ Some b → maps.get m q ≡ Some b) → m ≡ n
same_statuses m n f g = maps.same_map nat_cmp_total maps.nat_cmp-IsAntisymmetric m n
    (λ q. same_option (maps.get m q) (maps.get n q) (f q) (g q))

module _ (s : Slab Transaction) (once : EachOnce s) where
  pub get_live : (k : ℕ) (t : Transaction) → get s k ≡ Some t →
      maps.get (live_of s.slots) t.number ≡ Some t.falling
  unfolding live_of
  get_live k t h = at_slot s.slots k t once h

  -- how many transactions are live
  pub len_live : maps.len (live_of s.slots) ≡ count_by is_some s.slots
  unfolding live_of
  len_live = len_slots s.slots once

pub from_live : (s : Slab Transaction) (n : ℕ) (b : Bool) → maps.get (live_of s.slots) n ≡ Some b →
    (k : ℕ) × (t : Transaction) × (get s k ≡ Some t) × (t.number ≡ n) × (t.falling ≡ b)
unfolding live_of
from_live s n b h = from_slot s.slots n b h

module _ (old new : Slab Transaction) (once : EachOnce old) (key : ℕ) (t : Transaction)
    (put : Updates old new key (Some t)) where
  pub from_put : (k : ℕ) (u : Transaction) → get new k ≡ Some u →
      ((k ≡ key) × (t ≡ u)) ⊎ ((k ≢ key) × (get old k ≡ Some u))
  from_put k u h =
      ⊎_elim
      (λ (same : k ≡ key). inl (
        same,
        same_value t u (sym put.changed ∙ ap (get new) (sym same) ∙ h),
      ))
      (λ (other : k ≡ key → ⊥). inr (other, sym (put.others k other) ∙ h))
      (cases_eq k key)

  module _ (mine : (u : Transaction) → get old key ≡ Some u → u.number ≡ t.number)
      (alone : (k : ℕ) (u : Transaction) → k ≢ key → get old k ≡ Some u → u.number ≢ t.number) where
    -- no number comes twice
    pub put_once : EachOnce new
    put_once i j v w a b e =
        ⊎_elim
        (λ first. ⊎_elim
        (λ second. first.0 ∙ sym second.0)
        (λ second. absurd (alone j w second.0 second.1 (sym e ∙ ap (λ x. x.number) (sym first.1))))
        (from_put j w b))
        (λ first. ⊎_elim
        (λ second. absurd (alone i v first.0 first.1 (e ∙ ap (λ x. x.number) (sym second.1))))
        (λ second. once i j v w first.1 second.1 e)
        (from_put j w b))
        (from_put i v a)

    -- the map has the number's new status
    pub put_live : live_of new.slots ≡ maps.insert (live_of old.slots) t.number t.falling
    put_live =
        same_statuses (live_of new.slots) (maps.insert (live_of old.slots) t.number t.falling)
        (λ q b h. let r = from_live new q b h in
        ⊎_elim
        (λ here. get_insert (live_of old.slots) t.number t.falling q
        (sym r.3 ∙ ap (λ x. x.number) (sym here.1)) ∙
        ap Some (ap (λ x. x.falling) here.1 ∙ r.4))
        (λ there. get_insert_other (live_of old.slots) t.number t.falling q
        (λ same. alone r.0 r.1 there.0 there.1 (r.3 ∙ same))
        ∙ subst (λ n. maps.get (live_of old.slots) n ≡ Some b) r.3
        (get_live old once r.0 r.1 there.1 ∙ ap Some r.4))
        (from_put r.0 r.1 r.2))
        (λ q b h. ⊎_elim
        (λ (same : q ≡ t.number). subst (λ n. maps.get (live_of new.slots) n ≡ Some b) (sym same)
        (get_live new put_once key t put.changed ∙
        sym (get_insert (live_of old.slots) t.number t.falling q same) ∙ h))
        (λ (other : q ≡ t.number → ⊥). let r =
        from_live old q b (sym (get_insert_other (live_of old.slots) t.number t.falling q
        other) ∙ h) in
        let away : r.0 ≢ key = λ same. other (sym r.3 ∙ mine r.1 (ap (get old) (sym same) ∙ r.2)) in
        subst (λ n. maps.get (live_of new.slots) n ≡ Some b) r.3
        (get_live new put_once r.0 r.1 (put.others r.0 away ∙ r.2) ∙ ap Some r.4))
        (cases_eq q t.number))

module _ (old new : Slab Transaction) (once : EachOnce old) (key : ℕ) (t : Transaction)
    (there : get old key ≡ Some t) (gone : Updates old new key None) where
  pub from_gone : (k : ℕ) (u : Transaction) → get new k ≡ Some u → (k ≢ key) × (get old k ≡ Some u)
  from_gone k u h =
      ⊎_elim
      (λ (same : k ≡ key). let none : None ≡ Some u =
      sym gone.changed ∙ ap (get new) (sym same) ∙ h in cc)
      (λ (other : k ≡ key → ⊥). (other, sym (gone.others k other) ∙ h))
      (cases_eq k key)

  pub gone_once : EachOnce new
  gone_once i j v w a b e = once i j v w (from_gone i v a).1 (from_gone j w b).1 e

  -- the map has the number no more
  pub gone_live : live_of new.slots ≡ maps.remove (live_of old.slots) t.number
  gone_live =
      same_statuses (live_of new.slots) (maps.remove (live_of old.slots) t.number)
      (λ q b h. let r = from_live new q b h in let was = from_gone r.0 r.1 r.2 in
      get_remove_other (live_of old.slots) t.number q
      (λ same. was.0 (once r.0 key r.1 t was.1 there (r.3 ∙ same)))
      ∙ subst (λ n. maps.get (live_of old.slots) n ≡ Some b) r.3
      (get_live old once r.0 r.1 was.1 ∙ ap Some r.4))
      (λ q b h. ⊎_elim
      (λ (same : q ≡ t.number). let none = get_remove (live_of old.slots) t.number q same in
      let no : None ≡ Some b = sym none ∙ h in cc)
      (λ (other : q ≡ t.number → ⊥). let r =
      from_live old q b (sym (get_remove_other (live_of old.slots) t.number q other) ∙ h) in
      let away : r.0 ≢ key = λ same. other
      (sym r.3 ∙ ap (λ x. x.number) (same_value r.1 t (sym r.2 ∙ ap (get old) same ∙ there))) in
      subst (λ n. maps.get (live_of new.slots) n ≡ Some b) r.3
      (get_live new gone_once r.0 r.1 (gone.others r.0 away ∙ r.2) ∙ ap Some r.4))
      (cases_eq q t.number))

-- to take out what is not there changes nothing
pub remove_absent : (m : Statuses) (n : ℕ) → maps.get m n ≡ None → m ≡ maps.remove m n
remove_absent m n none = maps.same_map nat_cmp_total maps.nat_cmp-IsAntisymmetric m
    (maps.remove m n) (λ q.
    ⊎_elim
    (λ (same : q ≡ n). ap (maps.get m) same ∙ none ∙ sym (get_remove m n q same))
    (λ (other : q ≡ n → ⊥). sym (get_remove_other m n q other))
    (cases_eq q n))

pub in_head : {X : Type 0} (x : X) (xs : List X) → Contains (x ∷ xs) x
in_head x xs = Contains-append_left (x ∷ []) xs x (Contains-push [] x)

-- ---- who has room

-- There is room for one entry more of the transaction.
abbrev pub Fits : Transaction → Type 0
Fits t = vec_len t.entries < vec_capacity t.entries

-- who has room is in a slot,
from_roomy : (slots : List (Option Transaction)) (n : ℕ) → Contains (roomy slots) n →
    (k : ℕ) × (t : Transaction) × (get_or slots k None ≡ Some t) × (t.number ≡ n) × Fits t
from_roomy [] n h = let lt = h.1 in absurd (omega arith)
from_roomy (None ∷ rest) n h = let r = from_roomy rest n h in (suc r.0, r.1, r.2, r.3, r.4)
from_roomy (Some t ∷ rest) n h =
    by (ltb (vec_len t.entries) (vec_capacity t.entries)) refl h (from_roomy rest n)
  where
    by : (b : Bool) → ltb (vec_len t.entries) (vec_capacity t.entries) ≡ b →
        Contains (cond b (t.number ∷ roomy rest) (roomy rest)) n →
        (Contains (roomy rest) n → (k : ℕ) × (u : Transaction) × (get_or rest k None ≡ Some u) ×
        (u.number ≡ n) × Fits u) →
        (k : ℕ) × (u : Transaction) × (get_or (Some t ∷ rest) k None ≡ Some u) × (u.number ≡ n) ×
        Fits u
    by true e h later =
        ⊎_elim
        (λ first. (0, t, refl, only t.number n first, ltb-true _ _ e))
        (λ behind. let r = later behind in (suc r.0, r.1, r.2, r.3, r.4))
        (Contains-append_cases (t.number ∷ []) (roomy rest) n h)
    by false e h later = let r = later h in (suc r.0, r.1, r.2, r.3, r.4)

room_cond : (b : Bool) (m n : ℕ) (ns : List ℕ) → Contains ns n → Contains (cond b (m ∷ ns) ns) n
room_cond true m n ns h = Contains-append_right (m ∷ []) ns n h
room_cond false m n ns h = h

-- and the other way round
to_roomy : (slots : List (Option Transaction)) (k : ℕ) (t : Transaction) →
    get_or slots k None ≡ Some t → Fits t → Contains (roomy slots) t.number
to_roomy [] k t h fits = cc
to_roomy (None ∷ rest) zero t h fits = cc
to_roomy (None ∷ rest) (suc k) t h fits = to_roomy rest k t h fits
to_roomy (Some u ∷ rest) zero t h fits =
    let same = same_value u t h in
    subst (λ v. Contains (cond (ltb (vec_len u.entries) (vec_capacity u.entries))
    (u.number ∷ roomy rest) (roomy rest)) v.number) same
    (rw (lt-ltb (vec_len u.entries) (vec_capacity u.entries) (subst Fits (sym same) fits))
    (in_head u.number (roomy rest)))
to_roomy (Some u ∷ rest) (suc k) t h fits =
    room_cond (ltb (vec_len u.entries) (vec_capacity u.entries)) u.number t.number (roomy rest)
    (to_roomy rest k t h fits)

-- a transaction has room where one entry more fits in its slot and there is a stamp for it
pub room_given : (next : ℕ) (s : Slab Transaction) (n k : ℕ) (t : Transaction) →
    next < 2 ^ 64 - 1 → get s k ≡ Some t → t.number ≡ n → Fits t →
    Contains (rooms_of next s.slots) n
unfolding rooms_of
room_given next s n k t stamp h mine fits =
    rw (lt-ltb next (2 ^ 64 - 1) stamp)
    (subst (Contains (roomy s.slots)) mine (to_roomy s.slots k t h fits))

pub room_taken : (next : ℕ) (s : Slab Transaction) (n : ℕ) → Contains (rooms_of next s.slots) n →
    (next < 2 ^ 64 - 1) × ((k : ℕ) × (t : Transaction) × (get s k ≡ Some t) × (t.number ≡ n) ×
    Fits t)
unfolding rooms_of
room_taken next s n h = by (ltb next (2 ^ 64 - 1)) refl h
  where
    by : (b : Bool) → ltb next (2 ^ 64 - 1) ≡ b → Contains (cond b (roomy s.slots) []) n →
        (next < 2 ^ 64 - 1) × ((k : ℕ) × (t : Transaction) × (get s k ≡ Some t) ×
        (t.number ≡ n) × Fits t)
    by true e h = (ltb-true next (2 ^ 64 - 1) e, from_roomy s.slots n h)
    by false e h = let lt = h.1 in absurd (omega arith)

-- who is still live keeps its room where none is lost in a slot that is written
pub room_stays : (next : ℕ) (old new : Slab Transaction) (once : EachOnce old) (key : ℕ)
    (slot : Option Transaction) → Updates old new key slot →
    ((t u : Transaction) (k : ℕ) → slot ≡ Some t → get old k ≡ Some u → u.number ≡ t.number →
    Fits u → Fits t) →
    (n : ℕ) → is_some (maps.get (live_of new.slots) n) ≡ true →
    Contains (rooms_of next old.slots) n → Contains (rooms_of next new.slots) n
room_stays next old new once key slot put more n live had =
    by (maps.get (live_of new.slots) n) refl live
  where
    by : (o : Option Bool) → maps.get (live_of new.slots) n ≡ o → is_some o ≡ true →
        Contains (rooms_of next new.slots) n
    by None is live = cc
    by (Some b) is live =
        let room = room_taken next old n had in
        let r = from_live new n b is in
        let was = room.1 in
        let number = was.3 ∙ sym r.3 in
        room_given next new n r.0 r.1 room.0 r.2 r.3
        (⊎_elim
        (λ (here : r.0 ≡ key).
        more r.1 was.1 was.0 (sym put.changed ∙ ap (get new) (sym here) ∙ r.2) was.2 number was.4)
        (λ (away : r.0 ≡ key → ⊥).
        let there = sym (put.others r.0 away) ∙ r.2 in
        let same_key = once was.0 r.0 was.1 r.1 was.2 there number in
        let same = same_value was.1 r.1 (sym was.2 ∙ ap (get old) same_key ∙ there) in
        subst Fits same was.4)
        (cases_eq r.0 key))

-- the slot of a transaction with room has it
pub room_here : (next : ℕ) (s : Slab Transaction) (once : EachOnce s) (n key : ℕ)
    (t : Transaction) → get s key ≡ Some t → t.number ≡ n → Contains (rooms_of next s.slots) n →
    (next < 2 ^ 64 - 1) × Fits t
room_here next s once n key t there number had =
    let room = room_taken next s n had in
    let was = room.1 in
    let same_key = once was.0 key was.1 t was.2 there (was.3 ∙ sym number) in
    let same = same_value was.1 t (sym was.2 ∙ ap (get s) same_key ∙ there) in
    (room.0, subst Fits same was.4)

-- the rooms are the same where a slot's room stays
same_roomy : (slots : List (Option Transaction)) (k : ℕ) (was now : Transaction) →
    get_or slots k None ≡ Some was → now.number ≡ was.number →
    vec_len now.entries ≡ vec_len was.entries →
    vec_capacity now.entries ≡ vec_capacity was.entries →
    roomy (set slots k (Some now)) ≡ roomy slots
same_roomy [] k was now h number len capacity = cc
same_roomy (None ∷ rest) zero was now h number len capacity = cc
same_roomy (None ∷ rest) (suc k) was now h number len capacity =
    same_roomy rest k was now h number len capacity
same_roomy (Some u ∷ rest) zero was now h number len capacity =
    let same = same_value u was h in
    let lens = len ∙ ap (λ t. vec_len t.entries) (sym same) in
    let capacities = capacity ∙ ap (λ t. vec_capacity t.entries) (sym same) in
    let numbers = number ∙ ap (λ t. t.number) (sym same) in
    ap (λ l. cond (ltb l (vec_capacity now.entries)) (now.number ∷ roomy rest) (roomy rest)) lens ∙
    ap (λ c. cond (ltb (vec_len u.entries) c) (now.number ∷ roomy rest) (roomy rest)) capacities ∙
    ap (λ m. cond (ltb (vec_len u.entries) (vec_capacity u.entries)) (m ∷ roomy rest)
    (roomy rest)) numbers
same_roomy (Some u ∷ rest) (suc k) was now h number len capacity =
    ap (λ l. cond (ltb (vec_len u.entries) (vec_capacity u.entries)) (u.number ∷ l) l)
    (same_roomy rest k was now h number len capacity)

pub same_rooms : (next : ℕ) (s : Slab Transaction) (k : ℕ) (was now : Transaction) →
    get s k ≡ Some was → now.number ≡ was.number → vec_len now.entries ≡ vec_len was.entries →
    vec_capacity now.entries ≡ vec_capacity was.entries →
    rooms_of next (set s.slots k (Some now)) ≡ rooms_of next s.slots
unfolding rooms_of
same_rooms next s k was now h number len capacity =
    ap (λ l. cond (ltb next (2 ^ 64 - 1)) l [])
    (same_roomy s.slots k was now h number len capacity)

-- with no transaction
pub live_none : (slots : List (Option Transaction)) → slots ≡ [] → live_of slots ≡ maps.empty
unfolding live_of
live_none slots e = ap (λ l. maps.from_entries (statuses l)) e

-- a number that is not live is in no slot
pub not_live_alone : (s : Slab Transaction) → EachOnce s → (n : ℕ) →
    (is_some (maps.get (live_of s.slots) n) ≡ true → ⊥) → (k : ℕ) (u : Transaction) →
    get s k ≡ Some u → u.number ≢ n
not_live_alone s once n absent k u h e =
    absent (ap is_some (subst (λ m. maps.get (live_of s.slots) m ≡ Some u.falling) e
    (get_live s once k u h)))

none_of : {X : Type 0} (o : Option X) → ((x : X) → o ≡ Some x → ⊥) → o ≡ None
none_of None h = refl
none_of (Some x) h = absurd (h x refl)

-- a number that is in no slot is not live
pub absent_live : (s : Slab Transaction) (n : ℕ) → ((key : ℕ) → IsSlotOf s n key → ⊥) →
    maps.get (live_of s.slots) n ≡ None
absent_live s n free = none_of (maps.get (live_of s.slots) n)
    (λ b h. let r = from_live s n b h in free r.0 (r.1, r.2, r.3))

-- a number that is in a slot has its status
pub slot_live : (s : Slab Transaction) → EachOnce s → (n key : ℕ) (t : Transaction) →
    get s key ≡ Some t → t.number ≡ n → maps.get (live_of s.slots) n ≡ Some t.falling
slot_live s once n key t h e = subst (λ m. maps.get (live_of s.slots) m ≡ Some t.falling) e
    (get_live s once key t h)

pub fallen_there : (live : Statuses) (n : ℕ) (b : Bool) → maps.get live n ≡ Some b →
    fallen live n ≡ maps.insert live n true
fallen_there live n b h = ap (λ x. cond x (maps.insert live n true) live) (ap is_some h)

pub fallen_absent : (live : Statuses) (n : ℕ) → maps.get live n ≡ None → fallen live n ≡ live
fallen_absent live n h = ap (λ x. cond x (maps.insert live n true) live) (ap is_some h)

-- the least number in the slots is the least that is live
pub least_live : (s : Slab Transaction) → EachOnce s → (n : ℕ) → IsLeastSlot s n →
    IsLeastLive (live_of s.slots) n
least_live s once n least = record {
  lives = ap is_some (slot_live s once n least.key least.there.0 least.there.1 least.there.2);
  least = λ m lives. lives_in m (maps.get (live_of s.slots) m) refl lives;
}
  where
    lives_in : (m : ℕ) (o : Option Bool) → maps.get (live_of s.slots) m ≡ o → is_some o ≡ true →
        n ≤ m
    lives_in m None is lives = cc
    lives_in m (Some b) is lives = let r = from_live s m b is in
        subst (λ k. n ≤ k) r.3 (least.least r.0 r.1 r.2)

-- nobody is live where the slots are empty
pub none_in_slots : (s : Slab Transaction) →
    ((key : ℕ) (t : Transaction) → get s key ≡ Some t → ⊥) → live_of s.slots ≡ maps.empty
none_in_slots s free =
    same_statuses (live_of s.slots) maps.empty
    (λ q b h. let r = from_live s q b h in absurd (free r.0 r.1 r.2))
    (λ q b h. let none = maps.get-empty {X = Bool} nat_cmp q in
    let no : None ≡ Some b = sym none ∙ h in cc)

pub least_found : (s : Slab Transaction) → EachOnce s → (least : Option ℕ) →
    IfSome least (IsLeastSlot s) → IfSome least (IsLeastLive (live_of s.slots))
least_found s once None found = tt
least_found s once (Some n) found = least_live s once n found

pub least_none : (s : Slab Transaction) (least : Option ℕ) →
    IfNone least ((key : ℕ) (t : Transaction) → get s key ≡ Some t → ⊥) →
    IfNone least (live_of s.slots ≡ maps.empty)
least_none s None none = none_in_slots s none
least_none s (Some n) none = tt

-- who lives is in a slot
in_slot : (s : Slab Transaction) (P : ℕ → Type 0) (m : ℕ) →
    ((key : ℕ) (t : Transaction) → get s key ≡ Some t → P t.number) → (o : Option Bool) →
    maps.get (live_of s.slots) m ≡ o → is_some o ≡ true → P m
in_slot s P m all None is lives = cc
in_slot s P m all (Some b) is lives = let r = from_live s m b is in subst P r.3 (all r.0 r.1 r.2)

pub next_found : (s : Slab Transaction) → EachOnce s → (after : ℕ) (next : Option ℕ) →
    IfSome next (IsNextSlot s after) → IfSome next (IsNextLive (live_of s.slots) after)
next_found s once after None found = tt
next_found s once after (Some n) found = record {
  lives = ap is_some (slot_live s once n found.key found.there.0 found.there.1 found.there.2);
  above = found.above;
  least = λ m lives. in_slot s (λ k. after < k → n ≤ k) m found.least (maps.get (live_of s.slots) m)
      refl lives;
}

pub next_none : (s : Slab Transaction) (after : ℕ) (next : Option ℕ) →
    IfNone next ((key : ℕ) (t : Transaction) → get s key ≡ Some t → t.number ≤ after) →
    IfNone next ((n : ℕ) → Lives (live_of s.slots) n → n ≤ after)
next_none s after None none = λ n lives. in_slot s (λ k. k ≤ after) n none
    (maps.get (live_of s.slots) n) refl lives
next_none s after (Some n) none = tt
