-- What is live and what was asked for, where the slot of a transaction is written, taken or made
-- free.
use Rattle.std.proofs.Common.{◌≡◌, ◌≢◌, ℕ, ◌<◌, ◌≤◌, ◌+◌, ◌-◌, ◌==◌, Bool, not, cond, Some, None}
use Rattle.std.proofs.Common.{List, [], ◌∷◌, ◌++◌, ⊎_elim, map, take, length, refl, sym, ap, subst}
use Rattle.std.proofs.Common.{◌∙◌, arith, append-nil, inr, get_or, is_some, Contains}
use Rattle.std.specs.List.{remove, AllByRecursion}
use Rattle.std.specs.FinMap as maps
use Rattle.std.proofs.lemmas.Bool.{cases_eq, eq-eqb}
use Rattle.std.proofs.lemmas.List.{map-append, map-id, length-map, length-append}
use Rattle.std.proofs.lemmas.List.Elements.{filter-append}
use Rattle.std.proofs.lemmas.List.Filters.{length-filter_both}
use Rattle.std.proofs.lemmas.Simd.{map-map}
use Rattle.slab.specs.Slab.{Slab, get, Updates, with_value}
use Rattle.slab.proofs.SlabLemmas.{Updates-with_value}
use Rattle.calls.specs.Transactions as transactions
use Rattle.calls.specs.Transactions.{calls_of}
use Rattle.calls.proofs.Points.{get_insert, get_insert_other}
use Rattle.undo_log.specs.declared.live.Transaction.{Transaction}
use Rattle.undo_log.specs.declared.logged.Stamped.{Stamped}
use Rattle.undo_log.specs.declared.logged.Entry.{Entry}
use Rattle.undo_log.specs.Entries.{stamped_entry, entry_of, event_of, IsNewestCall, IsNewestPlace}
use Rattle.undo_log.specs.Logs.{Statuses, Lives, live_of, rooms_of, EachOnce}
use Rattle.undo_log.specs.Stamps.{Mark, marks, merged, marks_of, AreStamped}
use Rattle.undo_log.proofs.Rising.{In, in_left, in_right, in_either, in_filter, all_in, in_all}
use Rattle.undo_log.proofs.Rising.{Rises, rises_push, rises_without}
use Rattle.undo_log.proofs.Owns.{IsParted, parted, at_place, without_place}
use Rattle.undo_log.proofs.Slots.{put_once, put_live, get_live, same_statuses, same_value, Fits}
use Rattle.undo_log.proofs.Slots.{room_stays}
use Rattle.undo_log.proofs.Marks.{is_other, rest_of, told, own_told, merged_rises, none_of_free}
use Rattle.undo_log.proofs.Marks.{none_merged, written_merged, written_each, cleared_merged}
use Rattle.undo_log.proofs.Marks.{cleared_each}

-- a status that is there already is put anew
put_again : (live : Statuses) (n : ℕ) (b : Bool) → maps.get live n ≡ Some b →
    maps.insert live n b ≡ live
put_again live n b there =
    same_statuses (maps.insert live n b) live
    (λ q c h. ⊎_elim
    (λ (e : q ≡ n). ap (maps.get live) e ∙ there ∙ sym (get_insert live n b q e) ∙ h)
    (λ (other : q ≡ n → ⊥). sym (get_insert_other live n b q other) ∙ h)
    (cases_eq q n))
    (λ q c h. ⊎_elim
    (λ (e : q ≡ n). get_insert live n b q e ∙ sym there ∙ ap (maps.get live) (sym e) ∙ h)
    (λ (other : q ≡ n → ⊥). get_insert_other live n b q other ∙ h)
    (cases_eq q n))

-- a mark of the number
abbrev mark : ℕ → Stamped → Mark
mark n s = (s.stamp, (n, stamped_entry s))

one_own : (n : ℕ) (m : Mark) → m.1.0 ≡ n → marks_of n (m ∷ []) ≡ m ∷ []
one_own n m e = ap (λ b. cond b (m ∷ []) []) (eq-eqb m.1.0 n e)

no_rest : (n : ℕ) (m : Mark) (ms : List Mark) → m.1.0 ≡ n → rest_of n (m ∷ ms) ≡ rest_of n ms
no_rest n m ms e = ap (λ b. cond (not b) (m ∷ rest_of n ms) (rest_of n ms)) (eq-eqb m.1.0 n e)

-- with no slot
module _ (s : Slab Transaction) (empty : s.slots ≡ []) where
  vacant : (key : ℕ) (t : Transaction) → get s key ≡ Some t → ⊥
  vacant key t h =
      let no : None ≡ Some t = sym (ap (λ l. get_or l key None) empty) ∙ h in
      cc

  pub none_once : EachOnce s
  none_once i j t u a b e = absurd (vacant i t a)

  pub none_stamped : AreStamped s 0 0
  none_stamped =
      let none = none_merged s.slots empty in
      record {
        each = λ key t h. absurd (vacant key t h);
        below = subst (AllByRecursion (λ m. m.0 < 0)) (sym none) tt;
        counted = sym (ap length none);
        few = omega arith;
      }

-- a slot is written: so are the marks of its number, and all others stay
module _ (old new : Slab Transaction) (once : EachOnce old) (key : ℕ) (now : Transaction)
    (put : Updates old new key (Some now))
    (mine : (u : Transaction) → get old key ≡ Some u → u.number ≡ now.number)
    (alone : (k : ℕ) (u : Transaction) → k ≢ key → get old k ≡ Some u → u.number ≢ now.number)
    (next count : ℕ) (stamped : AreStamped old next count) (ms : List Mark) (rises : Rises ms)
    (own_is : marks_of now.number ms ≡ marks now)
    (rest_is : rest_of now.number ms ≡ rest_of now.number (merged old.slots)) where
  put_merged : merged new.slots ≡ ms
  put_merged = written_merged old new once key now put mine alone stamped.each ms rises own_is
      rest_is

  put_stamped : (next' count' : ℕ) → AllByRecursion (λ m. m.0 < next') ms → count' ≡ length ms →
      count' ≤ next' → AreStamped new next' count'
  put_stamped next' count' below counted few = record {
    each = written_each old new once key now put mine alone stamped.each ms rises own_is rest_is;
    below = subst (AllByRecursion (λ m. m.0 < next')) (sym put_merged) below;
    counted = counted ∙ ap length (sym put_merged);
    few = few;
  }

-- a transaction that asked for nothing gets a slot
module _ (old new : Slab Transaction) (once : EachOnce old) (key : ℕ) (now : Transaction)
    (vacant : get old key ≡ None) (put : Updates old new key (Some now))
    (fresh : (k : ℕ) (u : Transaction) → get old k ≡ Some u → u.number ≢ now.number)
    (empty : now.entries.items ≡ []) (next count : ℕ) (stamped : AreStamped old next count) where
  mine : (u : Transaction) → get old key ≡ Some u → u.number ≡ now.number
  mine u h = let no : None ≡ Some u = sym vacant ∙ h in cc

  no_marks : marks_of now.number (merged old.slots) ≡ marks now
  no_marks = none_of_free old now.number (λ k slot. fresh k slot.0 slot.1 slot.2) ∙
      ap (map (mark now.number)) (sym empty)

  pub entered_merged : merged new.slots ≡ merged old.slots
  entered_merged = put_merged old new once key now put mine (λ k u away h. fresh k u h) next count
      stamped (merged old.slots) (merged_rises old.slots) no_marks refl

  pub entered_stamped : AreStamped new next count
  entered_stamped = put_stamped old new once key now put mine (λ k u away h. fresh k u h) next count
      stamped (merged old.slots) (merged_rises old.slots) no_marks refl next count stamped.below
      stamped.counted stamped.few

-- the slot of a transaction is written
module _ (old : Slab Transaction) (once : EachOnce old) (key : ℕ) (was now : Transaction)
    (there : get old key ≡ Some was) (same : now.number ≡ was.number) where
  abbrev new : Slab Transaction
  new = with_value old key now

  put : Updates old new key (Some now)
  put = Updates-with_value old key now (ap is_some there)

  its_own : (u : Transaction) → get old key ≡ Some u → u.number ≡ now.number
  its_own u h = ap (λ t. t.number) (same_value u was (sym h ∙ there)) ∙ sym same

  alone : (k : ℕ) (u : Transaction) → k ≢ key → get old k ≡ Some u → u.number ≢ now.number
  alone k u away h e = away (once k key u was h there (e ∙ same))

  pub written_once : EachOnce new
  written_once = put_once old new once key now put its_own alone

  pub written_status : live_of new.slots ≡ maps.insert (live_of old.slots) now.number now.falling
  written_status = put_live old new once key now put its_own alone

  pub written_live : now.falling ≡ was.falling → live_of new.slots ≡ live_of old.slots
  written_live status =
      let had = get_live old once key was there ∙ ap Some (sym status) in
      let status_is = ap (maps.get (live_of old.slots)) same ∙ had in
      written_status ∙ put_again (live_of old.slots) now.number now.falling status_is

  -- It has room then if it had, and who is still live keeps its room.
  pub written_rooms : (next : ℕ) → (Fits was → Fits now) → (n : ℕ) → Lives (live_of new.slots) n →
      Contains (rooms_of next old.slots) n → Contains (rooms_of next new.slots) n
  written_rooms next more =
      room_stays next old new once key (Some now) put
      (λ t u k is found number fits.
      let now_is = same_value now t is in
      let same_key = once k key u was found there
      (number ∙ ap (λ v. v.number) (sym now_is) ∙ same) in
      let was_is = same_value u was (sym found ∙ ap (get old) same_key ∙ there) in
      subst Fits now_is (more (subst Fits was_is fits)))

  module _ (next count : ℕ) (stamped : AreStamped old next count) where
    abbrev all : List Mark
    all = merged old.slots

    -- what the transaction asked for, with the number that stays
    had : marks_of now.number all ≡ map (mark now.number) was.entries.items
    had = ap (λ k. marks_of k all) same ∙ stamped.each key was there ∙
        ap (λ k. map (mark k) was.entries.items) (sym same)

    -- its entries stay,
    module _ (items : now.entries.items ≡ was.entries.items) where
      still : marks_of now.number all ≡ marks now
      still = had ∙ ap (map (mark now.number)) (sym items)

      pub same_merged : merged new.slots ≡ merged old.slots
      same_merged = put_merged old new once key now put its_own alone next count stamped all
          (merged_rises old.slots) still refl

      pub same_stamped : AreStamped new next count
      same_stamped = put_stamped old new once key now put its_own alone next count stamped all
          (merged_rises old.slots) still refl next count stamped.below stamped.counted stamped.few

    -- one more comes behind,
    module _ (e : Entry)
        (items : now.entries.items ≡ was.entries.items ++
        record { stamp = next; entry = e } ∷ []) where
      abbrev x : Mark
      x = (next, (now.number, entry_of e))

      abbrev more : List Mark
      more = all ++ x ∷ []

      more_rises : Rises more
      more_rises = rises_push all next (now.number, entry_of e) (merged_rises old.slots)
          stamped.below

      more_own : marks_of now.number more ≡ marks now
      more_own =
          filter-append (λ m. m.1.0 == now.number) all (x ∷ [])
          ∙ ap (λ l. l ++ marks_of now.number (x ∷ [])) had
          ∙ ap (λ l. map (mark now.number) was.entries.items ++ l) (one_own now.number x refl)
          ∙ sym (map-append (mark now.number) was.entries.items _)
          ∙ ap (map (mark now.number)) (sym items)

      more_rest : rest_of now.number more ≡ rest_of now.number all
      more_rest =
          filter-append (is_other now.number) all (x ∷ [])
          ∙ ap (λ l. rest_of now.number all ++ l) (no_rest now.number x [] refl)
          ∙ append-nil (rest_of now.number all)

      pub pushed_merged : merged new.slots ≡ merged old.slots ++ x ∷ []
      pushed_merged = put_merged old new once key now put its_own alone next count stamped more
          more_rises more_own more_rest

      pub pushed_stamped : AreStamped new (next + 1) (count + 1)
      pushed_stamped =
          let size = length-append all (x ∷ []) in
          let counted = stamped.counted in
          let few = stamped.few in
          put_stamped old new once key now put its_own alone next count stamped more more_rises
          more_own more_rest (next + 1) (count + 1)
          (in_all (λ m. m.0 < next + 1) more (λ m i.
          ⊎_elim
          (λ (left : In m all). let under = all_in (λ v. v.0 < next) all stamped.below m left in
          omega arith)
          (λ (right : In m (x ∷ [])). ⊎_elim
          (λ (here : x ≡ m). let at = ap (λ v. v.0) here in omega arith)
          (λ (none : ⊥). absurd none) right)
          (in_either m all (x ∷ []) i)))
          (omega arith) (omega arith)

    -- or the newest call is taken out
    module _ (i : ℕ) (place : IsNewestPlace was.entries.items i)
        (items : now.entries.items ≡ remove was.entries.items i) where
      abbrev g : Stamped → Mark
      g = mark now.number

      abbrev earlier : List Stamped
      earlier = take i was.entries.items

      abbrev parts : IsParted (λ (m : Mark). m.1.0 == now.number) (λ m. m) all (map g earlier)
          (g place.0) (map g place.1)
      parts = parted (λ (m : Mark). m.1.0 == now.number) (λ m. m) all (map g earlier) (g place.0)
          (map g place.1) (map-id (marks_of now.number all) ∙ had ∙
          at_place g i was.entries.items place.0 place.1 place.2)

      abbrev left : List Mark
      left = parts.before ++ parts.after

      before_is : marks_of now.number parts.before ≡ map g earlier
      before_is = sym (map-id (marks_of now.number parts.before)) ∙ parts.before_is

      after_is : marks_of now.number parts.after ≡ map g place.1
      after_is = sym (map-id (marks_of now.number parts.after)) ∙ parts.after_is

      left_rises : Rises left
      left_rises = rises_without parts.before parts.here parts.after
          (subst Rises parts.is (merged_rises old.slots))

      left_own : marks_of now.number left ≡ marks now
      left_own =
          filter-append (λ m. m.1.0 == now.number) parts.before parts.after
          ∙ ap (λ l. l ++ marks_of now.number parts.after) before_is
          ∙ ap (λ l. map g earlier ++ l) after_is
          ∙ sym (without_place g i was.entries.items place.0 place.1 place.2)
          ∙ ap (map g) (sym items)

      left_rest : rest_of now.number left ≡ rest_of now.number all
      left_rest =
          filter-append (is_other now.number) parts.before parts.after
          ∙ ap (λ l. rest_of now.number parts.before ++ l)
          (sym (no_rest now.number parts.here parts.after (ap (λ m. m.1.0) parts.here_is)))
          ∙ sym (filter-append (is_other now.number) parts.before (parts.here ∷ parts.after))
          ∙ ap (rest_of now.number) (sym parts.is)

      popped_merged : merged new.slots ≡ parts.before ++ parts.after
      popped_merged = put_merged old new once key now put its_own alone next count stamped left
          left_rises left_own left_rest

      size : length all ≡ length left + 1
      size =
          let one = ap length parts.is ∙ length-append parts.before (parts.here ∷ parts.after) in
          let both = length-append parts.before parts.after in
          omega arith

      pub popped_stamped : AreStamped new next (count - 1)
      popped_stamped =
          let many = size in
          let counted = stamped.counted in
          let few = stamped.few in
          put_stamped old new once key now put its_own alone next count stamped left left_rises
          left_own left_rest next (count - 1)
          (in_all (λ m. m.0 < next) left (λ m j.
          all_in (λ v. v.0 < next) all stamped.below m
          (subst (In m) (sym parts.is)
          (⊎_elim
          (λ (front : In m parts.before). in_left m parts.before (parts.here ∷ parts.after) front)
          (λ (back : In m parts.after).
          in_right m parts.before (parts.here ∷ parts.after) (inr back))
          (in_either m parts.before parts.after j)))))
          (omega arith) (omega arith)

      pub popped_newest : IsNewestCall was.number (told (merged old.slots)) (event_of place.3.0)
          (told (merged new.slots))
      popped_newest =
          let entry : parts.here.1 ≡ (was.number, transactions.Asked (event_of place.3.0)) =
          ap (λ m. m.1) parts.here_is ∙
          (λ j. (same j, entry_of (place.3.1 j))) in
          record {
            before = told parts.before;
            after = told parts.after;
            is = ap told parts.is ∙
                map-append (λ m. m.1) parts.before (parts.here ∷ parts.after) ∙
                ap (λ v. told parts.before ++ v ∷ told parts.after) entry;
            rest_is = ap told popped_merged ∙ map-append (λ m. m.1) parts.before parts.after;
            none_newer =
                ap calls_of (own_told was.number parts.after
                ∙ ap (λ k. map (λ m. m.1.1) (marks_of k parts.after)) (sym same)
                ∙ ap (map (λ m. m.1.1)) after_is
                ∙ map-map (λ (m : Mark). m.1.1) g place.1) ∙ place.4;
          }

-- what is in the slot of a transaction, and what others asked for, is all
module _ (old : Slab Transaction) (key : ℕ) (was : Transaction) (there : get old key ≡ Some was)
    (next count : ℕ) (stamped : AreStamped old next count) where
  parts_many : length was.entries.items + length (rest_of was.number (merged old.slots)) ≡ count
  parts_many =
      let both = length-filter_both (λ (m : Mark). m.1.0 == was.number) (is_other was.number)
      (λ m. refl) (merged old.slots) in
      let own_many = ap length (stamped.each key was there) ∙
      length-map was.entries.items (mark was.number) in
      let counted = stamped.counted in
      omega arith

  pub slot_within : length was.entries.items ≤ count
  slot_within = let many = parts_many in omega arith

-- the slot of a transaction is made free
module _ (old new : Slab Transaction) (once : EachOnce old) (key : ℕ) (was : Transaction)
    (there : get old key ≡ Some was) (gone : Updates old new key None) (next count : ℕ)
    (stamped : AreStamped old next count) where
  pub cleared_stamped : AreStamped new next (count - length was.entries.items)
  cleared_stamped =
      let is = cleared_merged old new once key was there gone stamped.each in
      let many = parts_many old key was there next count stamped in
      let size = ap length is in
      let few = stamped.few in
      record {
        each = cleared_each old new once key was there gone stamped.each;
        below = subst (AllByRecursion (λ m. m.0 < next)) (sym is)
            (in_all (λ m. m.0 < next) (rest_of was.number (merged old.slots)) (λ m i.
            all_in (λ v. v.0 < next) (merged old.slots) stamped.below m
            (in_filter (is_other was.number) m (merged old.slots) i).0));
        counted = omega arith;
        few = omega arith;
      }
