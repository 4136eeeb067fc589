-- What holds of the items and the values of a content: none is too long to be spelled, and so many
-- runs reach them.
use Rattle.std.proofs.Common.{refl, ◌≡◌, ℕ, zero, suc, pos, ◌≤◌, Bool, true, false, cond, Option}
use Rattle.std.proofs.Common.{Some, None, arith, ◌+◌, ◌*◌, ◌^◌}
use Rattle.std.proofs.Common.{List, [], ◌∷◌, ◌++◌, map, length, sym, ◌∙◌, ap, subst}
use Rattle.std.proofs.Common.{⊎_elim}
use Rattle.std.specs.Prelude.{IfSome, T, replicate}
use Rattle.std.specs.List.{AllByRecursion, flat_map}
use Rattle.std.specs.Ordering.{nat_cmp, eq_by_cmp, is_eq}
use Rattle.std.specs.Cmp.{nat_cmp_total}
use Rattle.std.specs.Option.{unwrap_or}
use Rattle.std.specs.FinMap.{get, find, entries, empty, get-empty, get-insert, get-remove}
use Rattle.std.specs.FinMap.{get-entries, entries_sorted}
use Rattle.calls.specs.declared.kind.Kind.{Kind}
use Rattle.calls.specs.declared.call.Call.{Call}
use Rattle.calls.specs.declared.reply.Reply.{Reply}
use Rattle.calls.specs.declared.item.Item.{Item}
use Rattle.calls.specs.declared.format.Format.{Format}
use Rattle.calls.specs.Formats.{max_value, widest}
use Rattle.calls.specs.Sets as sets
use Rattle.calls.specs.Maps as maps
use Rattle.calls.specs.Queues as queues
use Rattle.calls.specs.Counters as counters
use Rattle.calls.specs.Pools as pools
use Rattle.calls.specs.Stocks as stocks
use Rattle.calls.specs.Quotas as quotas
use Rattle.calls.specs.Rules.{inverse_of, IsShort, Disposable, Deferrable}
use Rattle.calls.specs.Contents as contents
use Rattle.calls.specs.Contents.{Content, InSet, InMap, InQueue, InCounter, InPool, InStock}
use Rattle.calls.specs.Contents.{Collection, Answers, after, AnswersAt, after_at, kind_of_content}
use Rattle.calls.specs.Contents.{InQuotas, IsItemOf}
use Rattle.calls.specs.Transactions.{Makes}
use Rattle.calls.specs.Bags.{copies_of}
use Rattle.calls.proofs.BagPoints.{not_tied}
use Rattle.calls.proofs.Found.{AreApart, all_found}
use Rattle.catalog.specs.Holdings.{ListsContent, Loads}
use Rattle.records.specs.Short.{IsShortReply, IsShortItem, HoldsShort, AreShort}
use Rattle.catalog.specs.Places.{Reaches, IsWithin}
use Rattle.catalog.specs.Laws.Makings.{within_more}
use Rattle.records.specs.Reached.{IsReached}
use Rattle.std.proofs.lemmas.Cmp.{tied_itself}
use Rattle.std.proofs.lemmas.Bool.{cases_eq}
use Rattle.std.proofs.lemmas.Int.{ints}
use Rattle.std.specs.FinMap as finmaps
use Rattle.std.specs.FinMap.Entries.{is_sorted, below_all}
use Rattle.catalog.proofs.Orders.{is_less, first_of_both, second_of_both}
use Rattle.catalog.proofs.Listings.{quota_item}
use Rattle.boosted.proofs.Each.{each_append}

-- ---- what fits is short

-- ---- what is short in a format is short in the widest

widest_value : (f : Format) → max_value f ≤ max_value widest
widest_value Format.One = omega arith
widest_value Format.Two = omega arith

pub widest_call : (f : Format) (c : Call) → IsShort f c → IsShort widest c
widest_call f (Call.Put k v) l = let wide = widest_value f in omega arith
widest_call f c l = tt

pub widest_reply : (f : Format) (r : Reply) → IsShortReply f r → IsShortReply widest r
widest_reply f (Reply.Value v) l = let wide = widest_value f in omega arith
widest_reply f (Reply.Entry k v) l = let wide = widest_value f in omega arith
widest_reply f r l = tt

widest_content : (f : Format) (k : Content) → HoldsShort f k → HoldsShort widest k
widest_content f (InMap m) h = λ k v e. let short = h k v e in let wide = widest_value f in
    omega arith
widest_content f (InSet s) h = tt
widest_content f (InQueue q) h = tt
widest_content f (InCounter n) h = tt
widest_content f (InPool s) h = tt
widest_content f (InStock n) h = tt
widest_content f (InQuotas q) h = tt

pub widest_all : (f : Format) (s : List Collection) → AreShort f s → AreShort widest s
widest_all f [] a = tt
widest_all f (x ∷ xs) a = (widest_content f x.content a.0, widest_all f xs a.1)

module _ (f : Format) where
  -- A call that may run in a commit or be deferred holds no value.
  pub short_disposable : (c : Call) → Disposable c → IsShort f c
  short_disposable (Call.Bump n) d = tt
  short_disposable (Call.Free x) d = tt
  short_disposable (Call.Fill n) d = tt
  short_disposable c d = absurd d

  pub short_deferrable : (c : Call) → Deferrable c → IsShort f c
  short_deferrable (Call.Bump n) d = tt
  short_deferrable (Call.Fill n) d = tt
  short_deferrable c d = absurd d

  -- ---- replies

  set_short : (s : sets.NumberSet) (c : Call) (r : Reply) → sets.Answers s c r → IsShortReply f r
  set_short s (Call.Contains x) (Reply.Value v) a = absurd a.1
  set_short s c (Reply.Value v) a = absurd a.1
  set_short s c (Reply.Entry k v) a = absurd a.1
  set_short s c r a = tt

  map_short : (m : maps.Table) (c : Call) (r : Reply) → HoldsShort f (InMap m) →
      maps.Answers m c r → IsShortReply f r
  map_short m (Call.Get k) (Reply.Value v) h a = h k v a.1
  map_short m (Call.Put k w) (Reply.Value v) h a = h k v a.1
  map_short m (Call.MapRemove k) (Reply.Value v) h a = h k v a.1
  map_short m (Call.Ceiling k) (Reply.Entry j v) h a = h j v a.1.there
  map_short m c (Reply.Value v) h a = absurd a.1
  map_short m c (Reply.Entry j v) h a = absurd a.1
  map_short m c r h a = tt

  queue_short : (q : _) (c : Call) (r : Reply) → queues.Answers q c r → IsShortReply f r
  queue_short q (Call.QueueAdd p g) (Reply.Value v) a = absurd a.1
  queue_short q c (Reply.Value v) a = absurd a.1
  queue_short q c (Reply.Entry k v) a = absurd a.1
  queue_short q c r a = tt

  counter_short : (n : _) (c : Call) (r : Reply) → counters.Answers n c r → IsShortReply f r
  counter_short n (Call.Bump k) (Reply.Value v) a = absurd a.1
  counter_short n c (Reply.Value v) a = absurd a.1
  counter_short n c (Reply.Entry k v) a = absurd a.1
  counter_short n c r a = tt

  pool_short : (s : sets.NumberSet) (c : Call) (r : Reply) → pools.Answers s c r → IsShortReply f r
  pool_short s Call.Draw (Reply.Value v) a = absurd a.1
  pool_short s c (Reply.Value v) a = absurd a.1
  pool_short s c (Reply.Entry k v) a = absurd a.1
  pool_short s c r a = tt

  stock_short : (n : ℕ) (c : Call) (r : Reply) → stocks.Answers n c r → IsShortReply f r
  stock_short n (Call.Fill k) (Reply.Value v) a = absurd a.1
  stock_short n c (Reply.Value v) a = absurd a.1
  stock_short n c (Reply.Entry k v) a = absurd a.1
  stock_short n c r a = tt

  quota_short : (q : quotas.Quotas) (c : Call) (r : Reply) → quotas.Answers q c r →
      IsShortReply f r
  quota_short q (Call.QuotaFill k n) (Reply.Value v) a = absurd a.1
  quota_short q c (Reply.Value v) a = absurd a.1
  quota_short q c (Reply.Entry k v) a = absurd a.1
  quota_short q c r a = tt

  content_reply : (k : Content) (c : Call) (r : Reply) → HoldsShort f k → Answers k c r →
      IsShortReply f r
  content_reply (InSet s) c r h a = set_short s c r a
  content_reply (InMap m) c r h a = map_short m c r h a
  content_reply (InQueue q) c r h a = queue_short q c r a
  content_reply (InCounter n) c r h a = counter_short n c r a
  content_reply (InPool s) c r h a = pool_short s c r a
  content_reply (InStock n) c r h a = stock_short n c r a
  content_reply (InQuotas q) c r h a = quota_short q c r a

  pub short_reply : (s : List Collection) (at : ℕ) (c : Call) (r : Reply) → AreShort f s →
      AnswersAt s at c r → IsShortReply f r
  short_reply [] at c r h a = absurd a
  short_reply (x ∷ xs) zero c r h a = content_reply x.content c r h.0 a
  short_reply (x ∷ xs) (suc at) c r h a = short_reply xs at c r h.1 a

  inverse_short : (c : Call) (r : Reply) → IsShortReply f r → IfSome (inverse_of c r) (IsShort f)
  inverse_short (Call.SetAdd x) Reply.Yes h = tt
  inverse_short (Call.SetRemove x) Reply.Yes h = tt
  inverse_short Call.Pick (Reply.Id x) h = tt
  inverse_short (Call.Put k v) Reply.Nothing h = tt
  inverse_short (Call.Put k v) (Reply.Value o) h = h
  inverse_short (Call.MapRemove k) (Reply.Value o) h = h
  inverse_short (Call.QueueAdd p g) Reply.Done h = tt
  inverse_short Call.Take (Reply.Item p g) h = tt
  inverse_short (Call.Bump n) Reply.Done h = tt
  inverse_short Call.Draw (Reply.Id x) h = tt
  inverse_short (Call.Spend n) Reply.Yes h = tt
  inverse_short (Call.QuotaSpend k n) Reply.Yes h = tt
  inverse_short (Call.QuotaFill k n) Reply.Done h = tt
  inverse_short c r h = tt

  -- The call that takes back what was answered so is short.
  pub short_inverse : (c : Call) (r : Reply) (back : Call) → IsShortReply f r →
      inverse_of c r ≡ Some back → IsShort f back
  short_inverse c r back h e = subst (λ (o : Option Call). IfSome o (IsShort f)) e
      (inverse_short c r h)

  -- ---- contents

  same_value : (v w : List ℕ) → Some v ≡ Some w → v ≡ w
  same_value v w e = ap (λ o. unwrap_or o v) e

  put_short : (b : Bool) (v w : List ℕ) (o : Option (List ℕ)) →
      length v ≤ max_value f →
      (o ≡ Some w → length w ≤ max_value f) → cond b (Some v) o ≡ Some w → length w ≤ max_value f
  put_short true v w o l h e = subst (λ u. length u ≤ max_value f) (same_value v w e) l
  put_short false v w o l h e = h e

  left_short : (b : Bool) (w : List ℕ) (o : Option (List ℕ)) →
      (o ≡ Some w → length w ≤ max_value f) →
      cond b None o ≡ Some w → length w ≤ max_value f
  left_short true w o h e = absurd (cc)
  left_short false w o h e = h e

  map_after : (m : maps.Table) (c : Call) (r : Reply) → HoldsShort f (InMap m) → IsShort f c →
      HoldsShort f (InMap (maps.after m c r))
  map_after m (Call.Put k v) r h l =
      λ q w e. put_short (eq_by_cmp nat_cmp q k) v w (get m q) l (h q w)
      (sym (get-insert nat_cmp_total m k v q) ∙ e)
  map_after m (Call.MapRemove k)
      (Reply.Value o) h l =
      λ q w e. left_short (eq_by_cmp nat_cmp q k) w (get m q) (h q w)
      (sym (get-remove nat_cmp_total m k q) ∙ e)
  map_after m c r h l = h

  pub content_after : (k : Content) (c : Call) (r : Reply) → HoldsShort f k → IsShort f c →
      HoldsShort f (after k c r)
  content_after (InSet s) c r h l = tt
  content_after (InMap m) c r h l = map_after m c r h l
  content_after (InQueue q) c r h l = tt
  content_after (InCounter n) c r h l = tt
  content_after (InPool s) c r h l = tt
  content_after (InStock n) c r h l = tt
  content_after (InQuotas q) c r h l = tt

  pub short_after : (s : List Collection) (at : ℕ) (c : Call) (r : Reply) → AreShort f s →
      AnswersAt s at c r → IsShort f c → AreShort f (after_at s at c r)
  short_after [] at c r h a l = absurd a
  short_after (x ∷ xs) zero c r h a l = (content_after x.content c r h.0 l, h.1)
  short_after (x ∷ xs)
      (suc at) c r h a l = (h.0, short_after xs at c r h.1 a l)

  short_more : (s : List Collection) (x : Collection) → HoldsShort f x.content → AreShort f s →
      AreShort f (s ++ x ∷ [])
  short_more [] x h a = (h, tt)
  short_more (y ∷ s) x h a = (a.0, short_more s x h a.1)

  none_short : (k : ℕ) (v : List ℕ) → get (empty {X = List ℕ} {R = nat_cmp}) k ≡ Some v →
      length v ≤ max_value f
  none_short k v e = let none = get-empty {X = List ℕ} nat_cmp k in absurd (cc)

  empty_short : (kind : Kind) → HoldsShort f (contents.empty kind)
  empty_short Kind.Set = tt
  empty_short Kind.Map = none_short
  empty_short Kind.Queue = tt
  empty_short Kind.Counter = tt
  empty_short Kind.Pool = tt
  empty_short Kind.Stock = tt
  empty_short Kind.Quotas = tt

  pub short_made : (s t : List Collection) (name : List ℕ) (kind : Kind) → Makes s name kind t →
      AreShort f s → AreShort f t
  short_made s t name kind m a = subst (AreShort f) (sym m.is)
      (short_more s (record { name = name; content = contents.empty kind }) (empty_short kind) a)

  -- What is found among entries of short values is short.
  found_short : (es : List (ℕ × List ℕ)) (q : ℕ) (w : List ℕ) →
      AllByRecursion (IsShortItem f) (map (λ e. Item.Entry e.0 e.1) es) →
      find nat_cmp q es ≡ Some w →
      length w ≤ max_value f
  found_short [] q w a e = absurd (cc)
  found_short (x ∷ es) q w a e = put_short (eq_by_cmp nat_cmp q x.0) x.1 w (find nat_cmp q es) a.0
      (found_short es q w a.1) e

  listed_short : (k : Content) (items : List Item) → ListsContent items k →
      AllByRecursion (IsShortItem f) items → HoldsShort f k
  listed_short (InSet s) items l a = tt
  listed_short (InMap m) items l a =
      λ q w e. found_short (entries m) q w (subst (AllByRecursion (IsShortItem f)) l a)
      (sym (get-entries m q) ∙ e)
  listed_short (InQueue q) items l a = tt
  listed_short (InCounter n) items l a = tt
  listed_short (InPool s) items l a = tt
  listed_short (InStock n) items l a = tt
  listed_short (InQuotas q) items l a = tt

  pub short_loaded : (s t : List Collection) (name : List ℕ) (kind : Kind) (items : List Item) →
      Loads s name kind items t → AllByRecursion (IsShortItem f) items → AreShort f s → AreShort f t
  short_loaded s t name kind items m a h =
      subst (AreShort f) (sym m.is) (short_more s (record { name = name; content = m.content })
      (listed_short m.content items m.lists a) h)

-- So many runs reach a stock exactly where they reach its number.
stock_within : (v n : ℕ) → counters.IsWithin (pos v) n → stocks.IsWithin v n
stock_within v n w = let h = w.high in omega (arith, ints)

number_within : (v n : ℕ) → stocks.IsWithin v n → counters.IsWithin (pos v) n
number_within v n w = record { low = omega (arith, ints); high = omega (arith, ints) }

-- So many runs reach quotas exactly where they reach each amount.
amount_within : (v n : ℕ) → counters.IsWithin (pos (suc v)) n → v + 1 ≤ n * 2 ^ 63
amount_within v n w = let h = w.high in omega (arith, ints)

within_amount : (v n : ℕ) → v + 1 ≤ n * 2 ^ 63 → counters.IsWithin (pos (suc v)) n
within_amount v n w = record { low = omega (arith, ints); high = omega (arith, ints) }

amount_reached : (b : Bool) (v n : ℕ) (o : Option ℕ) → counters.IsWithin (pos (suc v)) n →
    copies_of o ≤ n * 2 ^ 63 → copies_of (cond b (Some v) o) ≤ n * 2 ^ 63
amount_reached true v n o w h = amount_within v n w
amount_reached false v n o w h = h

found_reached : (n : ℕ) (es : List (ℕ × ℕ)) (k : ℕ) →
    AllByRecursion (IsReached n) (map quota_item es) → copies_of (find nat_cmp k es) ≤ n * 2 ^ 63
found_reached n [] k a = omega arith
found_reached n (e ∷ es) k a = amount_reached (eq_by_cmp nat_cmp k e.0) e.1 n (find nat_cmp k es)
    a.0 (found_reached n es k a.1)

quotas_reached : (n : ℕ) (q : quotas.Quotas) →
    AllByRecursion (IsReached n) (map quota_item (entries q)) → quotas.IsWithin q n
quotas_reached n q a = λ k. subst (λ o. copies_of o ≤ n * 2 ^ 63) (sym (get-entries q k))
    (found_reached n (entries q) k a)

listed_reached : (n : ℕ) (k : Content) (items : List Item) → ListsContent items k →
    AllByRecursion (IsReached n) items → Reaches k n
listed_reached n (InSet s) items l a = tt
listed_reached n (InMap m) items l a = tt
listed_reached n (InQueue q) items l a = tt
listed_reached n (InCounter v) items l a = let all = subst (AllByRecursion (IsReached n)) l a in
    all.0
listed_reached n (InPool s) items l a = tt
listed_reached n (InStock v) items l a =
    let all = subst (AllByRecursion (IsReached n)) l a in
    stock_within v n all.0
listed_reached n (InQuotas q) items l a =
    quotas_reached n q (subst (AllByRecursion (IsReached n)) l a)

pub within_loaded : (n : ℕ) (s t : List Collection) (name : List ℕ) (kind : Kind)
    (items : List Item) → Loads s name kind items t → AllByRecursion (IsReached n) items →
    IsWithin s n → IsWithin t n
within_loaded n s t name kind items m a w =
    subst (λ u. IsWithin u n) (sym m.is)
    (within_more (record { name = name; content = m.content }) s n
    (listed_reached n m.content items m.lists a) w)

-- ---- items that the wear reaches

not_found : {X : Type 0} (x : ℕ) (es : List (ℕ × X)) → T (below_all nat_cmp x es) →
    find nat_cmp x es ≡ None
not_found x [] h = refl
not_found x (e ∷ es) h = ap (λ o. cond (is_eq o) (Some e.1) (find nat_cmp x es))
    (is_less (nat_cmp x e.0) (first_of_both _ _ h)) ∙ not_found x es (second_of_both _ _ h)

none_bound : {X : Type 0} (n : ℕ) (f : X → Item) → ((x : X) → IsReached n (f x)) → (xs : List X) →
    AllByRecursion (IsReached n) (map f xs)
none_bound n f reached [] = tt
none_bound n f reached (x ∷ xs) = (reached x, none_bound n f reached xs)

copies_reached : (n k : ℕ) (i : Item) → IsReached n i → AllByRecursion (IsReached n) (replicate k i)
copies_reached n zero i reached = tt
copies_reached n (suc k) i reached = (reached, copies_reached n k i reached)

pairs_reached : (n : ℕ) (es : List ((ℕ × ℕ) × ℕ)) →
    AllByRecursion (IsReached n) (flat_map (λ e. replicate (suc e.1) (Item.Pair e.0.0 e.0.1)) es)
pairs_reached n [] = tt
pairs_reached n (e ∷ es) = each_append (IsReached n) (replicate (suc e.1) (Item.Pair e.0.0 e.0.1))
    (flat_map (λ e. replicate (suc e.1) (Item.Pair e.0.0 e.0.1)) es)
    (copies_reached n (suc e.1) (Item.Pair e.0.0 e.0.1) tt) (pairs_reached n es)

sorted_apart : (es : List (ℕ × ℕ)) → T (is_sorted nat_cmp es) → AreApart es
sorted_apart [] sorted = tt
sorted_apart (e ∷ es) sorted =
    (not_found e.0 es (first_of_both _ _ sorted), sorted_apart es (second_of_both _ _ sorted))

each_amount : (n : ℕ) (es : List (ℕ × ℕ)) → AllByRecursion (λ e. e.1 + 1 ≤ n * 2 ^ 63) es →
    AllByRecursion (IsReached n) (map quota_item es)
each_amount n [] a = tt
each_amount n (e ∷ es) a = (within_amount e.1 n a.0, each_amount n es a.1)

amounts_reached : (n : ℕ) (q : quotas.Quotas) → quotas.IsWithin q n →
    AllByRecursion (IsReached n) (map quota_item (entries q))
amounts_reached n q w = each_amount n (entries q)
    (all_found (λ v. v + 1 ≤ n * 2 ^ 63) (entries q) (sorted_apart (entries q) (entries_sorted q))
    (λ k v found. subst (λ m. m ≤ n * 2 ^ 63) (ap copies_of (get-entries q k ∙ found)) (w k)))

pub items_reached : (n : ℕ) (k : Content) (items : List Item) → ListsContent items k → Reaches k n →
    AllByRecursion (IsReached n) items
items_reached n (InSet s) items lists reached =
    subst (AllByRecursion (IsReached n)) (sym lists.are)
    (none_bound n Item.Element (λ x. tt) lists.numbers)
items_reached n (InMap m) items lists reached =
    subst (AllByRecursion (IsReached n)) (sym lists)
    (none_bound n (λ e. Item.Entry e.0 e.1) (λ e. tt) (finmaps.entries m))
items_reached n (InQueue q) items lists reached =
    subst (AllByRecursion (IsReached n)) (sym lists) (pairs_reached n (finmaps.entries q))
items_reached n (InCounter v) items lists reached =
    subst (AllByRecursion (IsReached n)) (sym lists) (reached, tt)
items_reached n (InPool s) items lists reached =
    subst (AllByRecursion (IsReached n)) (sym lists.are)
    (none_bound n Item.Element (λ x. tt) lists.numbers)
items_reached n (InStock v) items lists reached =
    subst (AllByRecursion (IsReached n)) (sym lists) (number_within v n reached, tt)
items_reached n (InQuotas q) items lists reached =
    subst (AllByRecursion (IsReached n)) (sym lists) (amounts_reached n q reached)

module _ (f : Format) where
  -- ---- the items of a content

  module _ (kind : Kind) where
    abbrev pub AreItems : List Item → Type 0
    AreItems items = AllByRecursion (λ i. IsShortItem f i × IsItemOf kind i) items

  elements_are : (ns : List ℕ) → AreItems Kind.Set (map Item.Element ns)
  elements_are [] = tt
  elements_are (n ∷ ns) = ((tt, tt), elements_are ns)

  pool_are : (ns : List ℕ) → AreItems Kind.Pool (map Item.Element ns)
  pool_are [] = tt
  pool_are (n ∷ ns) = ((tt, tt), pool_are ns)

  pairs_are : (n : ℕ) (p : ℕ × ℕ) (items : List Item) → AreItems Kind.Queue items →
      AreItems Kind.Queue (replicate n (Item.Pair p.0 p.1) ++ items)
  pairs_are zero p items are = are
  pairs_are (suc n) p items are = ((tt, tt), pairs_are n p items are)

  queue_are : (es : List ((ℕ × ℕ) × ℕ)) →
      AreItems Kind.Queue (flat_map (λ e. replicate (suc e.1) (Item.Pair e.0.0 e.0.1)) es)
  queue_are [] = tt
  queue_are (e ∷ es) = pairs_are (suc e.1) e.0
      (flat_map (λ e. replicate (suc e.1) (Item.Pair e.0.0 e.0.1)) es) (queue_are es)

  no_value : {X : Type 0} (o : Option X) (x : X) → o ≡ None → o ≡ Some x → ⊥
  no_value None x none some = cc
  no_value (Some y) x none some = cc

  later_short : (e : ℕ × List ℕ) (es : List (ℕ × List ℕ)) → T (below_all nat_cmp e.0 es) →
      ((q : ℕ) (w : List ℕ) → finmaps.find nat_cmp q (e ∷ es) ≡ Some w → length w ≤ max_value f) →
      (q : ℕ) (w : List ℕ) → finmaps.find nat_cmp q es ≡ Some w → length w ≤ max_value f
  later_short e es below short q w found =
      ⊎_elim
      (λ (same : q ≡ e.0). absurd (no_value (finmaps.find nat_cmp q es) w
      (ap (λ k. finmaps.find nat_cmp k es) same ∙ not_found e.0 es below) found))
      (λ (other : q ≡ e.0 → ⊥). short q w
      (ap (λ o. cond o (Some e.1) (finmaps.find nat_cmp q es))
      (not_tied (nat_cmp q e.0) (λ k. other (finmaps.nat_cmp-IsAntisymmetric q e.0 k))) ∙ found))
      (cases_eq q e.0)

  -- What stands in a map is what is found there.
  entries_are : (es : List (ℕ × List ℕ)) → T (is_sorted nat_cmp es) →
      ((q : ℕ) (w : List ℕ) → finmaps.find nat_cmp q es ≡ Some w → length w ≤ max_value f) →
      AreItems Kind.Map (map (λ e. Item.Entry e.0 e.1) es)
  entries_are [] sorted short = tt
  entries_are (e ∷ es) sorted short = (
    (
      short e.0 e.1 (ap (λ o. cond (is_eq o) (Some e.1) (finmaps.find nat_cmp e.0 es))
          (tied_itself nat_cmp_total e.0)),
      tt,
    ),
    entries_are es (second_of_both _ _ sorted)
        (later_short e es (first_of_both _ _ sorted) short),
  )

  amounts_are : (es : List (ℕ × ℕ)) → AreItems Kind.Quotas (map quota_item es)
  amounts_are [] = tt
  amounts_are (e ∷ es) = ((tt, omega (arith, ints)), amounts_are es)

  pub content_items : (k : Content) (items : List Item) → HoldsShort f k → ListsContent items k →
      AreItems (kind_of_content k) items
  content_items (InSet s) items short lists =
      subst (AreItems Kind.Set) (sym lists.are) (elements_are lists.numbers)
  content_items (InMap m) items short lists =
      subst (AreItems Kind.Map) (sym lists)
      (entries_are (finmaps.entries m) (finmaps.entries_sorted m)
      (λ q w found. short q w (finmaps.get-entries m q ∙ found)))
  content_items (InQueue q) items short lists =
      subst (AreItems Kind.Queue) (sym lists) (queue_are (finmaps.entries q))
  content_items (InCounter n) items short lists =
      subst (AreItems Kind.Counter) (sym lists) ((tt, tt), tt)
  content_items (InPool s) items short lists =
      subst (AreItems Kind.Pool) (sym lists.are) (pool_are lists.numbers)
  content_items (InStock n) items short lists =
      subst (AreItems Kind.Stock) (sym lists) ((tt, tt), tt)
  content_items (InQuotas q) items short lists =
      subst (AreItems Kind.Quotas) (sym lists) (amounts_are (finmaps.entries q))
