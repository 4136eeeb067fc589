-- How many elements a set, a map and a bag have.
use Rattle.std.proofs.Common.{◌≡◌, ℕ, suc, ◌+◌, ◌-◌, ◌<◌, ◌||◌, inl, inr, Bool, true, false}
use Rattle.std.proofs.Common.{cond, not}
use Rattle.std.proofs.Common.{List, [], ◌∷◌, map, length, refl, sym, ◌∙◌, ap, arith}
use Rattle.std.proofs.Common.{Less}
use Rattle.std.proofs.lemmas.List.Sums.{sum_by-cons}
use Rattle.std.specs.List.{AllByRecursion, list_any, filter}
use Rattle.std.specs.List.Sorted.{IsStrictlySortedBy}
use Rattle.std.specs.Map.{keys_of}
use Rattle.std.specs.Ordering.{nat_cmp, is_eq, eq_by_cmp}
use Rattle.std.specs.Cmp.{nat_cmp_total}
use Rattle.std.specs.FinSet as sets
use Rattle.std.specs.FinMap.{get-empty, len, len-entries, len-empty, entries, empty, from_entries}
use Rattle.std.specs.FinMap.{put}
use Rattle.std.specs.FinMap.{entries-insert}
use Rattle.std.specs.FinMap.Entries.{by_order}
use Rattle.calls.specs.Bags.{Bag, pair_cmp, copies_of, copies, add, take_out}
use Rattle.calls.proofs.BagPoints.{pair_cases, copies-add, copies-add_other}
use Rattle.calls.proofs.QueueLaws.{add_add, add_take_out}
use Rattle.collections.specs.declared.heap.Holder.{Holder}
use Rattle.collections.specs.Holders.{pair_of, marks_of, live_pairs, bag_of}
use Rattle.collections.specs.Items.{bag_from, IsSizeOf}
use Rattle.collections.proofs.Holders.{bag_from-live_pairs}

-- ---- keys that rise

none_of : (k : ℕ) (ks : List ℕ) → AllByRecursion (λ y. nat_cmp k y ≡ Less) ks →
    list_any (eq_by_cmp nat_cmp k) ks ≡ false
none_of k [] a = refl
none_of k (x ∷ ks) a =
    ap (λ o. is_eq o || list_any (eq_by_cmp nat_cmp k) ks) a.0 ∙ none_of k ks a.1

pub len-rising : (ks : List ℕ) → IsStrictlySortedBy nat_cmp ks →
    sets.len (sets.from_list {R = nat_cmp} ks) ≡ length ks
unfolding IsStrictlySortedBy
len-rising [] s = sets.len-empty nat_cmp
len-rising (k ∷ ks) s =
    let n : ℕ = sets.len (sets.from_list {R = nat_cmp} ks) in
    let rest : n ≡ length ks = len-rising ks s.1 in
    sets.len-insert nat_cmp_total (sets.from_list ks) k ∙
    ap (λ b. cond b n (n + 1))
    (sets.contains-from_list nat_cmp_total ks k ∙ none_of k ks s.0) ∙ omega arith

-- A list of no length has nothing.
pub no_length : {X : Type 0} (xs : List X) → length xs ≡ 0 → xs ≡ []
no_length [] e = refl
no_length (x ∷ xs) e = absurd (omega arith)

module _ {X : Type 0} where
  none_empty : entries (empty {X = X} {R = nat_cmp}) ≡ []
  none_empty = no_length (entries empty) (sym (len-entries empty) ∙ len-empty nat_cmp X)

  -- A key below all comes first.
  put_first : (k : ℕ) (v : X) (es : List (ℕ × X)) →
      AllByRecursion (λ y. nat_cmp k y ≡ Less) (keys_of es) → put nat_cmp k v es ≡ (k, v) ∷ es
  put_first k v [] a = refl
  put_first k v (e ∷ es) a = ap (λ o. by_order o ((k, v) ∷ e ∷ es) ((e.0, v) ∷ es)
      (e ∷ put nat_cmp k v es)) a.0

  -- Entries in the order of their keys are those of their map.
  pub entries-rising : (es : List (ℕ × X)) → IsStrictlySortedBy nat_cmp (keys_of es) →
      entries (from_entries {R = nat_cmp} es) ≡ es
  unfolding IsStrictlySortedBy
  entries-rising [] s = none_empty
  entries-rising (e ∷ es) s = entries-insert nat_cmp_total (from_entries es) e.0 e.1 ∙
      ap (put nat_cmp e.0 e.1) (entries-rising es s.1) ∙ put_first e.0 e.1 es s.0

  pub len-entries_rising : (es : List (ℕ × X)) → IsStrictlySortedBy nat_cmp (keys_of es) →
      len (from_entries {R = nat_cmp} es) ≡ length es
  len-entries_rising es s = len-entries (from_entries es) ∙ ap length (entries-rising es s)

-- ---- bags

no_copies : (x : ℕ × ℕ) → copies (empty {X = ℕ} {R = pair_cmp}) x ≡ 0
no_copies x = ap copies_of (get-empty pair_cmp x)

-- What stands beside the first copy of a pair.
beside : (x : ℕ × ℕ) (ys : List (ℕ × ℕ)) → 0 < copies (bag_from ys) x →
    (zs : List (ℕ × ℕ)) × (length ys ≡ suc (length zs)) × (bag_from ys ≡ add (bag_from zs) x)
beside x [] h = absurd (let e = no_copies x in omega arith)
beside x (y ∷ ys) h = elim (pair_cases x y) [
  | inl e ↦ (ys, refl, ap (add (bag_from ys)) (sym e))
  | inr n ↦
      let same = copies-add_other (bag_from ys) y x n in
      let found = beside x ys (omega arith) in (
        y ∷ found.0,
        ap suc found.1,
        ap (λ b. add b y) found.2 ∙ add_add (bag_from found.0) x y,
      )
]

-- Lists of one bag are equally long.
pub one_length : (xs ys : List (ℕ × ℕ)) → bag_from xs ≡ bag_from ys → length xs ≡ length ys
one_length [] [] e = refl
one_length [] (y ∷ ys) e =
    let none = no_copies y in
    let same = ap (λ b. copies b y) e in
    let some = copies-add (bag_from ys) y y refl in
    absurd (omega arith)
one_length (x ∷ xs) ys e =
    let same = ap (λ b. copies b x) e in
    let some = copies-add (bag_from xs) x x refl in
    let found = beside x ys (omega arith) in
    let rest = one_length xs found.0 (add_take_out (bag_from xs) x ∙
    ap (λ b. take_out b x) (e ∙ found.2) ∙ sym (add_take_out (bag_from found.0) x)) in
    ap suc rest ∙ sym found.1

-- a holder more, by whether it is marked
one_more : (m : Bool) (h : Holder) (ks : List Holder) (marks long : ℕ) →
    length (map pair_of ks) + marks ≡ long →
    length (map pair_of (cond (not m) (h ∷ ks) ks)) + (cond m 1 0 + marks) ≡ suc long
one_more true h ks marks long e = omega arith
one_more false h ks marks long e = omega arith

counted : (hs : List Holder) → length (live_pairs hs) + marks_of hs ≡ length hs
counted [] = refl
counted (h ∷ hs) =
    ap (λ n. length (live_pairs (h ∷ hs)) + n) (sum_by-cons (λ h. cond h.marked 1 0) h hs) ∙
    one_more h.marked h (filter (λ h. not h.marked) hs) (marks_of hs) (length hs) (counted hs)

-- as many pairs as there are holders that are not marked
pub size_of_kept : (hs : List Holder) (marked : ℕ) (b : Bag) → marked ≡ marks_of hs →
    bag_of hs ≡ b →
    IsSizeOf (length hs - marked) b
size_of_kept hs marked b marks is xs e =
    let all = counted hs in
    let long = one_length (live_pairs hs) xs (bag_from-live_pairs hs ∙ is ∙ sym e) in
    omega arith
