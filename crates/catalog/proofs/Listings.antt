-- The items of maps, quotas and queues, from their entries and pairs in order.
use Rattle.std.proofs.Common.{◌≡◌, ℕ, suc, pos, Some, false, true≢false, cond, replicate, ◌+◌, List}
use Rattle.std.proofs.Common.{[]}
use Rattle.std.proofs.Common.{◌∷◌, ◌++◌, map, refl, sym, ◌∙◌, ap, subst, arith, Ordering}
use Rattle.std.proofs.Common.{Less, Equal, Greater}
use Rattle.std.specs.List.{AllByRecursion, flat_map}
use Rattle.std.specs.List.Sorted.{IsStrictlySortedBy}
use Rattle.std.specs.Map.{keys_of}
use Rattle.std.specs.Ordering.{nat_cmp, is_lt, is_eq, ordering_reverse}
use Rattle.std.specs.Cmp.{tied_itself}
use Rattle.std.specs.FinMap.{find, get-entries, get-empty, entries, empty, from_entries, put}
use Rattle.collections.proofs.Sizes.{no_length, entries-rising}
use Rattle.std.specs.FinMap.{len-entries, len-empty, entries-insert}
use Rattle.std.specs.FinMap.Entries.{by_order}
use Rattle.calls.specs.declared.item.Item.{Item}
use Rattle.calls.specs.Maps.{Table}
use Rattle.calls.specs.Bags.{Bag, pair_cmp, copies_of, copies}
use Rattle.calls.specs.Quotas.{Quotas}
use Rattle.calls.proofs.BagPoints.{pair_cmp_total, pair_cmp-IsAntisymmetric, copies-add_other}
use Rattle.collections.specs.Items.{bag_from, IsRising, ListsBag}
use Rattle.catalog.specs.Holdings.{pair_item}

-- An entry of a map as an item.
abbrev pub entry_item : ℕ × List ℕ → Item
entry_item e = Item.Entry e.0 e.1

-- An entry of quotas as an item.
abbrev pub quota_item : ℕ × ℕ → Item
quota_item e = Item.Amount e.0 (pos (suc e.1))

pub entry_items : (m : Table) (es : List (ℕ × List ℕ)) → IsStrictlySortedBy nat_cmp (keys_of es) →
    from_entries es ≡ m → map entry_item es ≡ map entry_item (entries m)
entry_items m es s e = ap (map entry_item) (sym (entries-rising es s) ∙ ap entries e)

pub quota_items : (q : Quotas) (es : List (ℕ × ℕ)) → IsStrictlySortedBy nat_cmp (keys_of es) →
    from_entries es ≡ q → map quota_item es ≡ map quota_item (entries q)
quota_items q es s e = ap (map quota_item) (sym (entries-rising es s) ∙ ap entries e)

-- The pairs of a bag's entries, each as often as it is there.
abbrev pub spread : List ((ℕ × ℕ) × ℕ) → List Item
spread = flat_map (λ e. replicate (suc e.1) (Item.Pair e.0.0 e.0.1))

no_pairs : entries (empty {X = ℕ} {R = pair_cmp}) ≡ []
no_pairs = no_length (entries empty) (sym (len-entries empty) ∙ len-empty pair_cmp ℕ)

-- A pair that is none of these is not in their bag.
none_of : (xs : List (ℕ × ℕ)) (x : ℕ × ℕ) → AllByRecursion (λ z. x ≡ z → ⊥) xs →
    copies (bag_from xs) x ≡ 0
none_of [] x a = ap copies_of (get-empty pair_cmp x)
none_of (y ∷ ys) x a = copies-add_other (bag_from ys) y x a.0 ∙ none_of ys x a.1

-- One below the first of rising pairs is none of them.
below_rest : (x y : ℕ × ℕ) (ys : List (ℕ × ℕ)) → pair_cmp x y ≡ Less →
    AllByRecursion (λ z. is_lt (pair_cmp z y) ≡ false) ys → AllByRecursion (λ z. x ≡ z → ⊥) ys
below_rest x y [] l a = tt
below_rest x y (z ∷ zs) l a = (
  λ e. true≢false
      (sym (ap is_lt l) ∙ ap (λ v. is_lt (pair_cmp v y)) e ∙ a.0),
  below_rest x y zs l a.1,
)

not_itself : (x y : ℕ × ℕ) → pair_cmp x y ≡ Less → x ≡ y → ⊥
not_itself x y l e = true≢false
    (sym (ap is_lt l) ∙ ap is_lt (ap (λ v. pair_cmp x v) (sym e) ∙ tied_itself pair_cmp_total x))

-- The entries begin with the first pair.
abbrev Begins : List (ℕ × ℕ) → List ((ℕ × ℕ) × ℕ) → Type 0
Begins [] es = es ≡ []
Begins (x ∷ xs) es = (n : ℕ) × (rest : List ((ℕ × ℕ) × ℕ)) × (es ≡ (x, n) ∷ rest)

abbrev IsListed : List (ℕ × ℕ) → List ((ℕ × ℕ) × ℕ) → Type 0
IsListed xs es = Begins xs es × (spread es ≡ map pair_item xs)

one_first : (x y : ℕ × ℕ) (ys : List (ℕ × ℕ)) (c n : ℕ) (rest : List ((ℕ × ℕ) × ℕ)) (o : Ordering) →
    pair_cmp x y ≡ o → is_lt (pair_cmp y x) ≡ false →
    (pair_cmp x y ≡ Less → c ≡ 0) → (pair_cmp x y ≡ Equal → c ≡ n + 1) →
    spread ((y, n) ∷ rest) ≡ map pair_item (y ∷ ys) →
    IsListed (x ∷ y ∷ ys) (by_order o ((x, c) ∷ (y, n) ∷ rest) ((y, c) ∷ rest)
    ((y, n) ∷ put pair_cmp x c rest))
one_first x y ys c n rest Less e up none more h =
    let zero_copies : c ≡ 0 = none e in (
      (c, (y, n) ∷ rest, refl),
      ap (λ k. replicate (suc k) (pair_item x) ++ spread ((y, n) ∷ rest))
          zero_copies ∙ ap (λ l. pair_item x ∷ l) h,
    )
one_first x y ys c n rest Equal e up none more h =
    let same : x ≡ y = pair_cmp-IsAntisymmetric x y e in
    let count : c ≡ suc n = more e ∙ omega arith in (
      (c, rest, ap (λ v. (v, c) ∷ rest) (sym same)),
      ap (λ k. replicate (suc k) (pair_item y) ++ spread rest) count ∙
          ap (λ v. pair_item v ∷ replicate (suc n) (pair_item y) ++ spread rest) (sym same) ∙
          ap (λ l. pair_item x ∷ l) h,
    )
one_first x y ys c n rest Greater e up none more h =
    absurd (true≢false (sym (ap is_lt (pair_cmp_total.antisymm y x ∙ ap ordering_reverse e)) ∙ up))

listed : (xs : List (ℕ × ℕ)) → IsRising xs → IsListed xs (entries (bag_from xs))
listed [] r = (no_pairs, ap spread no_pairs)
listed (x ∷ []) r =
    let e : entries (bag_from (x ∷ [])) ≡ (x, 0) ∷ [] =
    entries-insert pair_cmp_total empty x (copies empty x) ∙
    (λ j. put pair_cmp x (copies_of (get-empty pair_cmp x j)) (no_pairs j)) in
    ((0, [], e), ap spread e)
listed (x ∷ (y ∷ ys)) r =
    let w = listed (y ∷ ys) r.1 in
    let b : Bag = bag_from (y ∷ ys) in
    let n : ℕ = w.0.0 in
    let rest : List ((ℕ × ℕ) × ℕ) = w.0.1 in
    let is : entries b ≡ (y, n) ∷ rest = w.0.2 in
    let e : entries (bag_from (x ∷ (y ∷ ys))) ≡ put pair_cmp x (copies b x) ((y, n) ∷ rest) =
    entries-insert pair_cmp_total b x (copies b x) ∙ ap (put pair_cmp x (copies b x)) is in
    let none : pair_cmp x y ≡ Less → copies b x ≡ 0 =
    λ l. none_of (y ∷ ys) x (not_itself x y l, below_rest x y ys l r.1.0) in
    let more : pair_cmp x y ≡ Equal → copies b x ≡ n + 1 =
    λ q. ap copies_of (get-entries b x ∙ ap (find pair_cmp x) is ∙
    ap (λ o. cond (is_eq o) (Some n) (find pair_cmp x rest)) q) in
    subst (IsListed (x ∷ (y ∷ ys))) (sym e)
    (one_first x y ys (copies b x) n rest (pair_cmp x y) refl r.0.0 none more
    (ap spread (sym is) ∙ w.1))

-- Pairs in order are those of their bag.
pub pair_items : (q : Bag) (xs : List (ℕ × ℕ)) → ListsBag xs q →
    map pair_item xs ≡ spread (entries q)
pair_items q xs l = sym (listed xs l.rising).1 ∙ ap (λ b. spread (entries b)) l.same
