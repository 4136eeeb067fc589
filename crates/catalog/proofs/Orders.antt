-- Items in order, what they fill, and that a content is what its items fill.
use Rattle.std.proofs.Common.{◌≡◌, ◌↔◌, ◌-◌, length, get_or, take, drop, take-append-drop, ℕ, zero}
use Rattle.std.proofs.Common.{suc, ◌<◌, ◌≤◌, ◌⊎◌, ◌&&◌, true, false, replicate, List, [], ◌∷◌, ◌++◌}
use Rattle.std.proofs.Common.{map, refl, sym, ◌∙◌, ap, subst, inl, inr, ⊎_elim, arith, Ordering}
use Rattle.std.proofs.Common.{Less, Equal, Greater, ◌+◌, Some, None, cond, ℤ, pos, negsuc}
use Rattle.std.proofs.lemmas.Int.{ints}
use Rattle.std.specs.Prelude.{T}
use Rattle.std.specs.List.{AllByRecursion}
use Rattle.std.specs.List.Sorted.{IsStrictlySortedBy}
use Rattle.std.specs.Map.{keys_of}
use Rattle.std.specs.Ordering.{nat_cmp, ordering_then, is_lt, is_eq, eq_by_cmp}
use Rattle.std.specs.Cmp.{ranked, nat_cmp_is, nat_cmp_total, tied_itself}
use Rattle.std.specs.FinMap as maps
use Rattle.std.specs.FinMap.Entries.{is_sorted, below_all}
use Rattle.std.specs.FinSet as sets
use Rattle.std.proofs.lemmas.Bool.{cases_lt, ltb-false}
use Rattle.std.proofs.lemmas.List.{drop_all}
use Rattle.std.proofs.Math.Seq.{drop-cons}
use Rattle.std.proofs.Math.Dec.{ltb}
use Rattle.calls.specs.declared.kind.Kind.{Kind}
use Rattle.calls.specs.declared.item.Item.{Item}
use Rattle.calls.specs.Bags.{pair_cmp, Bag, copies_of, copies, add}
use Rattle.calls.specs.Contents.{Content, InSet, InMap, InQueue, InCounter, InPool, InStock}
use Rattle.calls.specs.Contents.{InQuotas, empty, kind_of_content, IsItemOf, IsPositive}
use Rattle.collections.specs.Items.{bag_from, IsRising}
use Rattle.catalog.specs.Holdings.{ListsContent, pair_item, AreItems, Precedes, Rise, AreInOrder}
use Rattle.catalog.specs.Holdings.{Follows, with_item, filled}
use Rattle.catalog.proofs.Listings.{entry_item, entry_items, spread, pair_items, quota_item}
use Rattle.catalog.proofs.Listings.{quota_items}
use Rattle.std.specs.FinMap.{nat_cmp-IsAntisymmetric}
use Rattle.calls.proofs.BagPoints.{not_tied, pair_cmp_total, pair_cmp-IsAntisymmetric, pair_cases}
use Rattle.calls.proofs.BagPoints.{copies-add}
use Rattle.calls.proofs.BagPoints.{copies-add_other, same_bag}

-- ---- items that are filled in from the last to the first

pub filled-push : (k : Content) (xs : List Item) (x : Item) →
    filled k (xs ++ x ∷ []) ≡ filled (with_item k x) xs
filled-push k [] x = refl
filled-push k (y ∷ xs) x = ap (λ l. with_item l y) (filled-push k xs x)

kind_with : (k : Content) (x : Item) → kind_of_content (with_item k x) ≡ kind_of_content k
kind_with (InSet s) (Item.Element x) = refl
kind_with (InMap m) (Item.Entry k v) = refl
kind_with (InQueue q) (Item.Pair p g) = refl
kind_with (InCounter n) (Item.Number m) = refl
kind_with (InPool s) (Item.Element x) = refl
kind_with (InStock n) (Item.Number (pos m)) = refl
kind_with (InQuotas q) (Item.Amount k (pos n)) = refl
kind_with k x = refl

kind_empty : (kind : Kind) → kind_of_content (empty kind) ≡ kind
kind_empty Kind.Set = refl
kind_empty Kind.Map = refl
kind_empty Kind.Queue = refl
kind_empty Kind.Counter = refl
kind_empty Kind.Pool = refl
kind_empty Kind.Stock = refl
kind_empty Kind.Quotas = refl

pub kind_filled : (kind : Kind) (items : List Item) →
    kind_of_content (filled (empty kind) items) ≡ kind
kind_filled kind [] = kind_empty kind
kind_filled kind (x ∷ xs) = kind_with (filled (empty kind) xs) x ∙ kind_filled kind xs

-- ---- orders

less_of : (x y : ℕ) → x < y → nat_cmp x y ≡ Less
less_of x y h = sym (nat_cmp_is x y Less h)

below_of : (x y : ℕ) → nat_cmp x y ≡ Less → x < y
below_of x y e = ranked x y Less (sym e)

pub is_less : (o : Ordering) → T (is_lt o) → o ≡ Less
is_less Less h = refl
is_less Equal h = absurd h
is_less Greater h = absurd h

pub first_of_both : (a b : _) → T (a && b) → T a
first_of_both true b h = tt
first_of_both false b h = absurd h

pub second_of_both : (a b : _) → T (a && b) → T b
second_of_both true b h = h
second_of_both false b h = absurd h

all_above : (x y : ℕ) (ns : List ℕ) → x < y → AllByRecursion (λ z. nat_cmp y z ≡ Less) ns →
    AllByRecursion (λ z. nat_cmp x z ≡ Less) ns
all_above x y [] l a = tt
all_above x y (z ∷ ns) l a = (
  let m : y < z = below_of y z a.0 in
      less_of x z (omega arith),
  all_above x y ns l a.1,
)

-- pairs by their first and then their second number
abbrev PairLe : ℕ × ℕ → ℕ × ℕ → Type 0
PairLe x y = (x.0 < y.0) ⊎ ((x.0 ≡ y.0) × (x.1 ≤ y.1))

pair_le_trans : (x y z : ℕ × ℕ) → PairLe x y → PairLe y z → PairLe x z
pair_le_trans x y z a b = ⊎_elim
    (λ (l : x.0 < y.0). ⊎_elim (λ (m : y.0 < z.0). inl (omega arith))
    (λ (m : (y.0 ≡ z.0) × (y.1 ≤ z.1)). let e = m.0 in inl (omega arith)) b)
    (λ (l : (x.0 ≡ y.0) × (x.1 ≤ y.1)). ⊎_elim
    (λ (m : y.0 < z.0). let e = l.0 in inl (omega arith))
    (λ (m : (y.0 ≡ z.0) × (y.1 ≤ z.1)). let d = l.1 in let e = m.1 in inr (l.0 ∙ m.0, omega arith))
    b)
    a

not_less : (x y : ℕ) → y ≤ x → is_lt (nat_cmp x y) ≡ false
not_less x y l = ⊎_elim
    (λ (h : y < x). ap is_lt (sym (nat_cmp_is x y Greater h)))
    (λ (h : x ≤ y). let e : x ≡ y = omega arith in ap is_lt (sym (nat_cmp_is x y Equal e)))
    (cases_lt y x)

le_not_less : (x y : ℕ × ℕ) → PairLe x y → is_lt (pair_cmp y x) ≡ false
le_not_less x y h = ⊎_elim
    (λ (l : x.0 < y.0). ap (λ o. is_lt (ordering_then o (nat_cmp y.1 x.1)))
    (sym (nat_cmp_is y.0 x.0 Greater l)))
    (λ (l : (x.0 ≡ y.0) × (x.1 ≤ y.1)). ap (λ o. is_lt (ordering_then o (nat_cmp y.1 x.1)))
    (sym (nat_cmp_is y.0 x.0 Equal (sym l.0))) ∙ not_less y.1 x.1 l.1)
    h

by_first : (x y : ℕ × ℕ) (o p : Ordering) → nat_cmp x.0 y.0 ≡ o → nat_cmp x.1 y.1 ≡ p →
    ordering_then o p ≡ Less → PairLe x y
by_first x y Less p e f l = inl (below_of x.0 y.0 e)
by_first x y Equal p e f l = let m : x.1 < y.1 = below_of x.1 y.1 (f ∙ l) in
    inr (ranked x.0 y.0 Equal (sym e), omega arith)
by_first x y Greater p e f l = absurd (cc)

less_le : (x y : ℕ × ℕ) → pair_cmp x y ≡ Less → PairLe x y
less_le x y e = by_first x y (nat_cmp x.0 y.0) (nat_cmp x.1 y.1) refl refl e

-- ---- what a content lists is in order

rise_numbers : (x : ℕ) (ns : List ℕ) → IsStrictlySortedBy nat_cmp (x ∷ ns) →
    Rise Kind.Set (Item.Element x) (map Item.Element ns)
unfolding IsStrictlySortedBy
rise_numbers x [] s = tt
rise_numbers x (y ∷ ns) s = (below_of x y s.0.0, rise_numbers y ns s.1)

pool_as_set : (x : Item) (xs : List Item) → Rise Kind.Set x xs → Rise Kind.Pool x xs
pool_as_set (Item.Element x) [] h = tt
pool_as_set x [] h = absurd h
pool_as_set (Item.Element x) (Item.Element y ∷ ys) h = (h.0, pool_as_set (Item.Element y) ys h.1)
pool_as_set x (y ∷ ys) h = absurd h.0

set_as_pool : (x : Item) (xs : List Item) → Rise Kind.Pool x xs → Rise Kind.Set x xs
set_as_pool (Item.Element x) [] h = tt
set_as_pool x [] h = absurd h
set_as_pool (Item.Element x) (Item.Element y ∷ ys) h = (h.0, set_as_pool (Item.Element y) ys h.1)
set_as_pool x (y ∷ ys) h = absurd h.0

numbers_in_order : (ns : List ℕ) → IsStrictlySortedBy nat_cmp ns →
    AreInOrder Kind.Set (map Item.Element ns)
numbers_in_order [] s = tt
numbers_in_order (x ∷ ns) s = rise_numbers x ns s

taken_in_order : (ns : List ℕ) → IsStrictlySortedBy nat_cmp ns →
    AreInOrder Kind.Pool (map Item.Element ns)
taken_in_order [] s = tt
taken_in_order (x ∷ ns) s = pool_as_set (Item.Element x) (map Item.Element ns) (rise_numbers x ns s)

rise_entries : (e : ℕ × List ℕ) (es : List (ℕ × List ℕ)) → T (is_sorted nat_cmp (e ∷ es)) →
    Rise Kind.Map (entry_item e) (map entry_item es)
rise_entries e [] s = tt
rise_entries e (f ∷ es) s =
    let low : T (below_all nat_cmp e.0 (f ∷ es)) = first_of_both _ _ s in
    (below_of e.0 f.0 (is_less _ (first_of_both _ _ low)), rise_entries f es (second_of_both _ _ s))

entries_in_order : (es : List (ℕ × List ℕ)) → T (is_sorted nat_cmp es) →
    AreInOrder Kind.Map (map entry_item es)
entries_in_order [] s = tt
entries_in_order (e ∷ es) s = rise_entries e es s

positive : (n : ℕ) → IsPositive (pos (suc n))
positive n = omega (arith, ints)

rise_amounts : (e : ℕ × ℕ) (es : List (ℕ × ℕ)) → T (is_sorted nat_cmp (e ∷ es)) →
    Rise Kind.Quotas (quota_item e) (map quota_item es)
rise_amounts e [] s = positive e.1
rise_amounts e (f ∷ es) s =
    let low : T (below_all nat_cmp e.0 (f ∷ es)) = first_of_both _ _ s in (
      (below_of e.0 f.0 (is_less _ (first_of_both _ _ low)), positive e.1, positive f.1),
      rise_amounts f es (second_of_both _ _ s),
    )

amounts_in_order : (es : List (ℕ × ℕ)) → T (is_sorted nat_cmp es) →
    AreInOrder Kind.Quotas (map quota_item es)
amounts_in_order [] s = tt
amounts_in_order (e ∷ es) s = rise_amounts e es s

rise_spread : (x : ℕ × ℕ) (n : ℕ) (es : List ((ℕ × ℕ) × ℕ)) → T (below_all pair_cmp x es) →
    T (is_sorted pair_cmp es) → Rise Kind.Queue (pair_item x)
    (replicate n (pair_item x) ++ spread es)
rise_spread x (suc n) es b s = (inr (refl, omega arith), rise_spread x n es b s)
rise_spread x zero [] b s = tt
rise_spread x zero (e ∷ es) b s = (
  less_le x e.0 (is_less _ (first_of_both _ _ b)),
  rise_spread e.0 e.1 es (first_of_both _ _ s) (second_of_both _ _ s),
)

spread_in_order : (es : List ((ℕ × ℕ) × ℕ)) → T (is_sorted pair_cmp es) →
    AreInOrder Kind.Queue (spread es)
spread_in_order [] s = tt
spread_in_order (e ∷ es) s = rise_spread e.0 e.1 es (first_of_both _ _ s) (second_of_both _ _ s)

pub listed_in_order : (k : Content) (items : List Item) → ListsContent items k →
    AreInOrder (kind_of_content k) items
listed_in_order (InSet s) items l =
    subst (AreInOrder Kind.Set) (sym l.are) (numbers_in_order l.numbers l.rising)
listed_in_order (InMap m) items l =
    subst (AreInOrder Kind.Map) (sym l) (entries_in_order (maps.entries m) (maps.entries_sorted m))
listed_in_order (InQueue q) items l =
    subst (AreInOrder Kind.Queue) (sym l) (spread_in_order (maps.entries q) (maps.entries_sorted q))
listed_in_order (InCounter n) items l = subst (AreInOrder Kind.Counter) (sym l) tt
listed_in_order (InStock n) items l = subst (AreInOrder Kind.Stock) (sym l) tt
listed_in_order (InQuotas q) items l =
    subst (AreInOrder Kind.Quotas) (sym l)
    (amounts_in_order (maps.entries q) (maps.entries_sorted q))
listed_in_order (InPool s) items l =
    subst (AreInOrder Kind.Pool) (sym l.are) (taken_in_order l.numbers l.rising)

-- ---- items in order are those of what they fill

-- The numbers of elements that rise behind a first one.
pub record Numbers (x : ℕ) (xs : List Item) : Type 0 where
  pub numbers : List ℕ
  pub are : xs ≡ map Item.Element numbers
  pub rising : IsStrictlySortedBy nat_cmp (x ∷ numbers)

numbers_of : (x : ℕ) (xs : List Item) → Rise Kind.Set (Item.Element x) xs → Numbers x xs
unfolding IsStrictlySortedBy
numbers_of x [] h = record { numbers = []; are = refl; rising = (tt, tt) }
numbers_of x (Item.Element y ∷ ys) h =
    let r = numbers_of y ys h.1 in
    record {
      numbers = y ∷ r.numbers;
      are = ap (λ l. Item.Element y ∷ l) r.are;
      rising = ((less_of x y h.0, all_above x y r.numbers h.0 r.rising.0), r.rising);
    }
numbers_of x (y ∷ ys) h = absurd h.0

pub filled_set : (ns : List ℕ) →
    filled (InSet sets.empty) (map Item.Element ns) ≡ InSet (sets.from_list ns)
filled_set [] = refl
filled_set (n ∷ ns) = ap (λ k. with_item k (Item.Element n)) (filled_set ns)

pub filled_pool : (ns : List ℕ) →
    filled (InPool sets.empty) (map Item.Element ns) ≡ InPool (sets.from_list ns)
filled_pool [] = refl
filled_pool (n ∷ ns) = ap (λ k. with_item k (Item.Element n)) (filled_pool ns)

abbrev Lists : Kind → List Item → Type 0
Lists kind items = ListsContent items (filled (empty kind) items)

set_lists : (ns : List ℕ) → IsStrictlySortedBy nat_cmp ns → Lists Kind.Set (map Item.Element ns)
set_lists ns s = subst (ListsContent (map Item.Element ns)) (sym (filled_set ns))
    (record { numbers = ns; rising = s; members = refl; are = refl })

pool_lists : (ns : List ℕ) → IsStrictlySortedBy nat_cmp ns → Lists Kind.Pool (map Item.Element ns)
pool_lists ns s = subst (ListsContent (map Item.Element ns)) (sym (filled_pool ns))
    (record { numbers = ns; rising = s; members = refl; are = refl })

-- The entries that rise behind a first one.
pub record Entries (e : ℕ × List ℕ) (xs : List Item) : Type 0 where
  pub entries : List (ℕ × List ℕ)
  pub are : xs ≡ map entry_item entries
  pub rising : IsStrictlySortedBy nat_cmp (e.0 ∷ keys_of entries)

entries_of : (e : ℕ × List ℕ) (xs : List Item) → Rise Kind.Map (entry_item e) xs → Entries e xs
unfolding IsStrictlySortedBy
entries_of e [] h = record { entries = []; are = refl; rising = (tt, tt) }
entries_of e (Item.Entry k v ∷ ys) h =
    let r = entries_of (k, v) ys h.1 in
    record {
      entries = (k, v) ∷ r.entries;
      are = ap (λ l. Item.Entry k v ∷ l) r.are;
      rising = (
        (less_of e.0 k h.0, all_above e.0 k (keys_of r.entries) h.0 r.rising.0),
        r.rising,
      );
    }
entries_of e (y ∷ ys) h = absurd h.0

pub filled_map : (es : List (ℕ × List ℕ)) →
    filled (InMap maps.empty) (map entry_item es) ≡ InMap (maps.from_entries es)
filled_map [] = refl
filled_map (e ∷ es) = ap (λ k. with_item k (entry_item e)) (filled_map es)

map_lists : (es : List (ℕ × List ℕ)) → IsStrictlySortedBy nat_cmp (keys_of es) →
    Lists Kind.Map (map entry_item es)
map_lists es s = subst (ListsContent (map entry_item es)) (sym (filled_map es))
    (entry_items (maps.from_entries es) es s refl)

-- The amounts whose keys rise behind a first one.
pub record Amounts (e : ℕ × ℕ) (xs : List Item) : Type 0 where
  pub amounts : List (ℕ × ℕ)
  pub are : xs ≡ map quota_item amounts
  pub rising : IsStrictlySortedBy nat_cmp (e.0 ∷ keys_of amounts)

amounts_of : (e : ℕ × ℕ) (xs : List Item) → Rise Kind.Quotas (quota_item e) xs → Amounts e xs
unfolding IsStrictlySortedBy
amounts_of e [] h = record { amounts = []; are = refl; rising = (tt, tt) }
amounts_of e (Item.Amount k (pos (suc n)) ∷ ys) h =
    let r = amounts_of (k, n) ys h.1 in
    record {
      amounts = (k, n) ∷ r.amounts;
      are = ap (λ l. Item.Amount k (pos (suc n)) ∷ l) r.are;
      rising = (
        (less_of e.0 k h.0.0, all_above e.0 k (keys_of r.amounts) h.0.0 r.rising.0),
        r.rising,
      );
    }
amounts_of e (Item.Amount k (pos zero) ∷ ys) h = absurd (omega (arith, ints, h.0.2))
amounts_of e (Item.Amount k (negsuc n) ∷ ys) h = absurd (omega (arith, ints, h.0.2))
amounts_of e (y ∷ ys) h = absurd h.0

filled_quotas : (es : List (ℕ × ℕ)) →
    filled (InQuotas maps.empty) (map quota_item es) ≡ InQuotas (maps.from_entries es)
filled_quotas [] = refl
filled_quotas (e ∷ es) = ap (λ k. with_item k (quota_item e)) (filled_quotas es)

quotas_lists : (es : List (ℕ × ℕ)) → IsStrictlySortedBy nat_cmp (keys_of es) →
    Lists Kind.Quotas (map quota_item es)
quotas_lists es s = subst (ListsContent (map quota_item es)) (sym (filled_quotas es))
    (quota_items (maps.from_entries es) es s refl)

first_positive : (k : ℕ) (n : ℤ) (xs : List Item) → Rise Kind.Quotas (Item.Amount k n) xs →
    IsPositive n
first_positive k n [] h = h
first_positive k n (Item.Amount j m ∷ ys) h = h.0.1
first_positive k n (y ∷ ys) h = absurd h.0

amounts_list : (k : ℕ) (n : ℤ) (xs : List Item) → IsPositive n →
    Rise Kind.Quotas (Item.Amount k n) xs → Lists Kind.Quotas (Item.Amount k n ∷ xs)
unfolding IsStrictlySortedBy
amounts_list k (pos (suc n)) xs p h =
    let r = amounts_of (k, n) xs h in
    subst (λ l. Lists Kind.Quotas (Item.Amount k (pos (suc n)) ∷ l)) (sym r.are)
    (quotas_lists ((k, n) ∷ r.amounts) r.rising)
amounts_list k (pos zero) xs p h = absurd (omega (arith, ints, p))
amounts_list k (negsuc n) xs p h = absurd (omega (arith, ints, p))

-- The pairs that rise behind a first one.
pub record Pairs (x : ℕ × ℕ) (xs : List Item) : Type 0 where
  pub pairs : List (ℕ × ℕ)
  pub are : xs ≡ map pair_item pairs
  pub above : AllByRecursion (PairLe x) pairs
  pub rising : IsRising pairs

above_all : (x y : ℕ × ℕ) (ps : List (ℕ × ℕ)) → PairLe x y → AllByRecursion (PairLe y) ps →
    AllByRecursion (PairLe x) ps
above_all x y [] l a = tt
above_all x y (z ∷ ps) l a = (pair_le_trans x y z l a.0, above_all x y ps l a.1)

none_less : (x : ℕ × ℕ) (ps : List (ℕ × ℕ)) → AllByRecursion (PairLe x) ps →
    AllByRecursion (λ y. is_lt (pair_cmp y x) ≡ false) ps
none_less x [] a = tt
none_less x (y ∷ ps) a = (le_not_less x y a.0, none_less x ps a.1)

pairs_of : (x : ℕ × ℕ) (xs : List Item) → Rise Kind.Queue (pair_item x) xs → Pairs x xs
pairs_of x [] h = record { pairs = []; are = refl; above = tt; rising = tt }
pairs_of x (Item.Pair p g ∷ ys) h =
    let r = pairs_of (p, g) ys h.1 in
    record {
      pairs = (p, g) ∷ r.pairs;
      are = ap (λ l. Item.Pair p g ∷ l) r.are;
      above = (h.0, above_all x (p, g) r.pairs h.0 r.above);
      rising = (none_less (p, g) r.pairs r.above, r.rising);
    }
pairs_of x (y ∷ ys) h = absurd h.0

filled_queue : (ps : List (ℕ × ℕ)) →
    filled (InQueue maps.empty) (map pair_item ps) ≡ InQueue (bag_from ps)
filled_queue [] = refl
filled_queue (p ∷ ps) = ap (λ k. with_item k (pair_item p)) (filled_queue ps)

queue_lists : (ps : List (ℕ × ℕ)) → IsRising ps → Lists Kind.Queue (map pair_item ps)
queue_lists ps r = subst (ListsContent (map pair_item ps)) (sym (filled_queue ps))
    (pair_items (bag_from ps) ps (record { rising = r; same = refl }))

pub in_order_lists : (kind : Kind) (items : List Item) → AreInOrder kind items →
    ListsContent items (filled (empty kind) items)
unfolding IsStrictlySortedBy
in_order_lists Kind.Set [] h = set_lists [] tt
in_order_lists Kind.Set (Item.Element x ∷ xs) h = let r = numbers_of x xs h in
    subst (λ l. Lists Kind.Set (Item.Element x ∷ l)) (sym r.are)
    (set_lists (x ∷ r.numbers) r.rising)
in_order_lists Kind.Pool [] h = pool_lists [] tt
in_order_lists Kind.Pool (Item.Element x ∷ xs) h =
    let r = numbers_of x xs (set_as_pool (Item.Element x) xs h) in
    subst (λ l. Lists Kind.Pool (Item.Element x ∷ l)) (sym r.are)
    (pool_lists (x ∷ r.numbers) r.rising)
in_order_lists Kind.Map [] h = map_lists [] tt
in_order_lists Kind.Map (Item.Entry k v ∷ xs) h = let r = entries_of (k, v) xs h in
    subst (λ l. Lists Kind.Map (Item.Entry k v ∷ l)) (sym r.are)
    (map_lists ((k, v) ∷ r.entries) r.rising)
in_order_lists Kind.Queue [] h = queue_lists [] tt
in_order_lists Kind.Queue (Item.Pair p g ∷ xs) h =
    let r = pairs_of (p, g) xs h in
    subst (λ l. Lists Kind.Queue (Item.Pair p g ∷ l)) (sym r.are)
    (queue_lists ((p, g) ∷ r.pairs) (none_less (p, g) r.pairs r.above, r.rising))
in_order_lists Kind.Counter [] h = absurd h
in_order_lists Kind.Counter (Item.Number n ∷ []) h = refl
in_order_lists Kind.Counter (x ∷ (y ∷ ys)) h = absurd h.0
in_order_lists Kind.Stock [] h = absurd h
in_order_lists Kind.Stock (Item.Number (pos n) ∷ []) h = refl
in_order_lists Kind.Stock (x ∷ (y ∷ ys)) h = absurd h.0
in_order_lists Kind.Quotas [] h = quotas_lists [] tt
in_order_lists Kind.Quotas (Item.Amount k n ∷ xs) h =
    amounts_list k n xs (first_positive k n xs h) h
in_order_lists Kind.Set (x ∷ []) h = absurd h
in_order_lists Kind.Set (x ∷ (y ∷ ys)) h = absurd h.0
in_order_lists Kind.Pool (x ∷ []) h = absurd h
in_order_lists Kind.Pool (x ∷ (y ∷ ys)) h = absurd h.0
in_order_lists Kind.Map (x ∷ []) h = absurd h
in_order_lists Kind.Map (x ∷ (y ∷ ys)) h = absurd h.0
in_order_lists Kind.Queue (x ∷ []) h = absurd h
in_order_lists Kind.Queue (x ∷ (y ∷ ys)) h = absurd h.0
in_order_lists Kind.Counter (x ∷ []) h = absurd h
in_order_lists Kind.Stock (x ∷ []) h = absurd h
in_order_lists Kind.Quotas (x ∷ []) h = absurd h
in_order_lists Kind.Quotas (x ∷ (y ∷ ys)) h = absurd h.0

-- ---- both ways

pub items_from_order : (kind : Kind) (items : List Item) → AreInOrder kind items →
    AreItems kind items
items_from_order kind items h =
    (filled (empty kind) items, kind_filled kind items, in_order_lists kind items h)

pub order_from_items : (kind : Kind) (items : List Item) → AreItems kind items →
    AreInOrder kind items
order_from_items kind items k = subst (λ n. AreInOrder n items) k.1 (listed_in_order k.0 items k.2)

-- ---- one item more

-- An item behind another is one of the kind.
last_is_item : (kind : Kind) (x y : Item) → Precedes kind x y → IsItemOf kind y
last_is_item Kind.Set (Item.Element x) (Item.Element y) p = tt
last_is_item Kind.Map (Item.Entry k v) (Item.Entry j w) p = tt
last_is_item Kind.Queue (Item.Pair p g) (Item.Pair q h) b = tt
last_is_item Kind.Pool (Item.Element x) (Item.Element y) p = tt
last_is_item Kind.Quotas (Item.Amount x m) (Item.Amount y n) p = p.2
last_is_item kind x y p = absurd p

rise_push : (kind : Kind) (first : Item) (front : List Item) (last i : Item) →
    Rise kind first (front ++ last ∷ []) → Precedes kind last i →
    Rise kind first ((front ++ last ∷ []) ++ i ∷ [])
rise_push kind first [] last i rise next = (rise.0, (next, last_is_item kind last i next))
rise_push kind first (x ∷ front) last i rise next =
    (rise.0, rise_push kind x front last i rise.1 next)

rise_pop : (kind : Kind) (first : Item) (front : List Item) (last i : Item) →
    Rise kind first ((front ++ last ∷ []) ++ i ∷ []) → Precedes kind last i
rise_pop kind first [] last i rise = rise.1.0
rise_pop kind first (x ∷ front) last i rise = rise_pop kind x front last i rise.1

pub in_order_rise : (kind : Kind) (x : Item) (xs : List Item) → AreInOrder kind (x ∷ xs) →
    Rise kind x xs
in_order_rise Kind.Set x xs h = h
in_order_rise Kind.Map x xs h = h
in_order_rise Kind.Queue x xs h = h
in_order_rise Kind.Counter x xs h = h
in_order_rise Kind.Pool x xs h = h
in_order_rise Kind.Stock x xs h = h
in_order_rise Kind.Quotas x xs h = h

pub rise_in_order : (kind : Kind) (x : Item) (xs : List Item) → Rise kind x xs →
    AreInOrder kind (x ∷ xs)
rise_in_order Kind.Set x xs h = h
rise_in_order Kind.Map x xs h = h
rise_in_order Kind.Queue x xs h = h
rise_in_order Kind.Counter x xs h = h
rise_in_order Kind.Pool x xs h = h
rise_in_order Kind.Stock x xs h = h
rise_in_order Kind.Quotas x xs h = h

-- Behind items in order one more is in order where it may stand behind the last.
pub follows_last : (kind : Kind) (front : List Item) (last i : Item) →
    AreInOrder kind (front ++ last ∷ []) →
    Precedes kind last i ↔ Follows kind (front ++ last ∷ []) i
follows_last kind [] last i h = (
  λ p. rise_in_order kind last (i ∷ []) (p, last_is_item kind last i p),
  λ f. (in_order_rise kind last (i ∷ []) f).0,
)
follows_last kind (x ∷ front) last i h = (
  λ p. rise_in_order kind x ((front ++ last ∷ []) ++ i ∷ [])
      (rise_push kind x front last i (in_order_rise kind x (front ++ last ∷ []) h) p),
  λ f. rise_pop kind x front last i (in_order_rise kind x ((front ++ last ∷ []) ++ i ∷ []) f),
)

pub follows_none : (kind : Kind) (i : Item) → IsItemOf kind i ↔ Follows kind [] i
follows_none kind i = (λ h. rise_in_order kind i [] h, λ h. in_order_rise kind i [] h)

-- A list with a last element is what stands before it, and it.
ends_with : {X : Type 0} (xs : List X) (last : X) → 0 < length xs →
    ((d : X) → last ≡ get_or xs (length xs - 1) d) → (front : List X) × (xs ≡ front ++ last ∷ [])
ends_with xs last some is =
    let n : ℕ = length xs - 1 in
    let inside : n < length xs = omega arith in
    let none : drop (suc n) xs ≡ [] = drop_all (suc n) xs (omega arith) in
    let tail : drop n xs ≡ last ∷ [] =
    drop-cons xs n last inside ∙ ap (λ l. get_or xs n last ∷ l) none ∙
    ap (λ x. x ∷ []) (sym (is last)) in
    (take n xs, sym (take-append-drop n xs) ∙ ap (λ l. take n xs ++ l) tail)

empty_of : {X : Type 0} (xs : List X) → length xs ≡ 0 → xs ≡ []
empty_of [] e = refl
empty_of (x ∷ xs) e = absurd (omega (arith, e))

-- The same, where the last item was looked up.
pub follows_at_end : (kind : Kind) (items : List Item) (last i : Item) → 0 < length items →
    ((d : Item) → last ≡ get_or items (length items - 1) d) → (items ≡ []) ⊎ AreInOrder kind items →
    Precedes kind last i ↔ Follows kind items i
follows_at_end kind items last i some is known =
    let split = ends_with items last some is in
    let order : AreInOrder kind items =
    ⊎_elim (λ (e : items ≡ []). absurd (omega (arith, some, ap length e))) (λ h. h) known in
    subst (λ l. Precedes kind last i ↔ Follows kind l i) (sym split.1)
    (follows_last kind split.0 last i (subst (AreInOrder kind) split.1 order))

-- The same, where there is none.
pub follows_nothing : (kind : Kind) (items : List Item) (i : Item) → false ≡ ltb 0 (length items) →
    IsItemOf kind i ↔ Follows kind items i
follows_nothing kind items i none =
    let empty : length items ≡ 0 = omega (arith, ltb-false 0 (length items) (sym none)) in
    subst (λ l. IsItemOf kind i ↔ Follows kind l i) (sym (empty_of items empty))
    (follows_none kind i)

entries_again : {X : Type 0} (m : maps.FinMap nat_cmp X) →
    maps.from_entries (maps.entries m) ≡ m
entries_again m = maps.same_map nat_cmp_total nat_cmp-IsAntisymmetric
    (maps.from_entries (maps.entries m)) m
    (λ q. maps.get-from_entries nat_cmp_total (maps.entries m) q ∙ sym (maps.get-entries m q))

counts_again : (b : Bag) → maps.from_entries (maps.entries b) ≡ b
counts_again b = maps.same_map pair_cmp_total pair_cmp-IsAntisymmetric
    (maps.from_entries (maps.entries b)) b
    (λ q. maps.get-from_entries pair_cmp_total (maps.entries b) q ∙ sym (maps.get-entries b q))

-- A pair below all of the entries is none of them.
not_found : (x : ℕ × ℕ) (es : List ((ℕ × ℕ) × ℕ)) → T (below_all pair_cmp x es) →
    maps.find pair_cmp x es ≡ None
not_found x [] h = refl
not_found x (e ∷ es) h = ap (λ o. cond (is_eq o) (Some e.1) (maps.find pair_cmp x es))
    (is_less (pair_cmp x e.0) (first_of_both _ _ h)) ∙ not_found x es (second_of_both _ _ h)

-- Some copies of a pair more.
abbrev more : ℕ → Bag → ℕ × ℕ → Bag
more zero b x = b
more (suc n) b x = add (more n b x) x

more_here : (n : ℕ) (b : Bag) (x z : ℕ × ℕ) → z ≡ x → copies (more n b x) z ≡ copies b z + n
more_here zero b x z e = omega arith
more_here (suc n) b x z e = let one = copies-add (more n b x) x z e in
    let rest = more_here n b x z e in omega arith

more_there : (n : ℕ) (b : Bag) (x z : ℕ × ℕ) → (z ≡ x → ⊥) → copies (more n b x) z ≡ copies b z
more_there zero b x z e = refl
more_there (suc n) b x z e = copies-add_other (more n b x) x z e ∙ more_there n b x z e

counted_here : (b : Bag) (x z : ℕ × ℕ) (n : ℕ) → z ≡ x → copies (maps.insert b x n) z ≡ n + 1
counted_here b x z n e =
    let tied : eq_by_cmp pair_cmp z x ≡ true =
    ap is_eq (subst (λ y. pair_cmp z y ≡ Equal) e (tied_itself pair_cmp_total z)) in
    ap copies_of (maps.get-insert pair_cmp_total b x n z ∙
    ap (λ t. cond t (Some n) (maps.get b z)) tied)

counted_there : (b : Bag) (x z : ℕ × ℕ) (n : ℕ) → (z ≡ x → ⊥) →
    copies (maps.insert b x n) z ≡ copies b z
counted_there b x z n e =
    let untied : eq_by_cmp pair_cmp z x ≡ false =
    not_tied (pair_cmp z x) (λ k. e (pair_cmp-IsAntisymmetric z x k)) in
    ap copies_of (maps.get-insert pair_cmp_total b x n z ∙
    ap (λ t. cond t (Some n) (maps.get b z)) untied)

-- Put one by one where there is none, they are an entry of their number.
counted : (b : Bag) (x : ℕ × ℕ) (n : ℕ) → maps.get b x ≡ None → more (suc n) b x ≡ maps.insert b x n
counted b x n none = same_bag (more (suc n) b x) (maps.insert b x n) (λ z. ⊎_elim
    (λ (e : z ≡ x). let had : copies b z ≡ 0 = ap (λ y. copies b y) e ∙ ap copies_of none in
    let h = more_here (suc n) b x z e in let k = counted_here b x z n e in omega arith)
    (λ (e : z ≡ x → ⊥). more_there (suc n) b x z e ∙ sym (counted_there b x z n e))
    (pair_cases z x))

filled_copies : (n : ℕ) (x : ℕ × ℕ) (items : List Item) (b : Bag) →
    filled (InQueue maps.empty) items ≡ InQueue b →
    filled (InQueue maps.empty) (replicate n (pair_item x) ++ items) ≡ InQueue (more n b x)
filled_copies zero x items b e = e
filled_copies (suc n) x items b e =
    ap (λ k. with_item k (pair_item x)) (filled_copies n x items b e)

filled_spread : (es : List ((ℕ × ℕ) × ℕ)) → T (is_sorted pair_cmp es) →
    filled (InQueue maps.empty) (spread es) ≡ InQueue (maps.from_entries es)
filled_spread [] s = refl
filled_spread (e ∷ es) s =
    let b : Bag = maps.from_entries es in
    let none : maps.get b e.0 ≡ None =
    maps.get-from_entries pair_cmp_total es e.0 ∙ not_found e.0 es (first_of_both _ _ s) in
    filled_copies (suc e.1) e.0 (spread es) b (filled_spread es (second_of_both _ _ s)) ∙
    ap InQueue (counted b e.0 e.1 none)

pub what_items_fill : (k : Content) (items : List Item) → ListsContent items k →
    filled (empty (kind_of_content k)) items ≡ k
what_items_fill (InSet s) items l =
    ap (filled (InSet sets.empty)) l.are ∙ filled_set l.numbers ∙ ap InSet l.members
what_items_fill (InMap m) items l =
    ap (filled (InMap maps.empty)) l ∙ filled_map (maps.entries m) ∙ ap InMap (entries_again m)
what_items_fill (InQueue q) items l =
    ap (filled (InQueue maps.empty)) l ∙ filled_spread (maps.entries q) (maps.entries_sorted q) ∙
    ap InQueue (counts_again q)
what_items_fill (InCounter n) items l = ap (filled (empty Kind.Counter)) l
what_items_fill (InStock n) items l = ap (filled (empty Kind.Stock)) l
what_items_fill (InQuotas q) items l =
    ap (filled (InQuotas maps.empty)) l ∙ filled_quotas (maps.entries q) ∙
    ap InQuotas (entries_again q)
what_items_fill (InPool s) items l =
    ap (filled (InPool sets.empty)) l.are ∙ filled_pool l.numbers ∙ ap InPool l.members

pub one_content_of : (j k : Content) (items : List Item) → kind_of_content j ≡ kind_of_content k →
    ListsContent items j → ListsContent items k → j ≡ k
one_content_of j k items e l m =
    sym (what_items_fill j items l) ∙ ap (λ kind. filled (empty kind) items) e ∙
    what_items_fill k items m

-- ---- items in order, seen from the first

-- An item before another is one of the kind.
pub first_is_item : (kind : Kind) (x y : Item) → Precedes kind x y → IsItemOf kind x
first_is_item Kind.Set (Item.Element x) (Item.Element y) p = tt
first_is_item Kind.Map (Item.Entry k v) (Item.Entry j w) p = tt
first_is_item Kind.Queue (Item.Pair p g) (Item.Pair q h) b = tt
first_is_item Kind.Pool (Item.Element x) (Item.Element y) p = tt
first_is_item Kind.Quotas (Item.Amount x m) (Item.Amount y n) p = p.1
first_is_item kind x y p = absurd p
