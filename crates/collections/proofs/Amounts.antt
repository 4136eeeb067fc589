-- The amounts of quotas, in an ordered map of std.
use Rattle.std.proofs.Common.{◌≡◌, ℕ, zero, suc, ◌+◌, ◌-◌, ◌^◌, ◌<◌, Some, None, List, [], ◌∷◌}
use Rattle.std.proofs.Common.{cond, refl, sym, ◌∙◌, ap, subst, ⊎_elim, arith, Less}
use Rattle.std.proofs.lemmas.Bool.{cases_eq}
use Rattle.std.specs.List.{AllByRecursion}
use Rattle.std.specs.List.Sorted.{IsStrictlySortedBy}
use Rattle.std.specs.Map.{keys_of}
use Rattle.std.specs.Ordering.{nat_cmp, is_eq}
use Rattle.std.specs.Cmp.{nat_cmp_total}
use Rattle.std.specs.FinMap as map
use Rattle.std.specs.BTreeMap as tree
use Rattle.calls.specs.Bags.{copies_of}
use Rattle.calls.specs.Quotas.{Quotas, level, with_level, AreBelow}
use Rattle.calls.proofs.Found.{AreApart, all_found}
use Rattle.calls.proofs.QuotaPoints.{level_at, level_off}
use Rattle.collections.proofs.Tables.{table_of, get-table_of, table_of-insert, table_of-remove}

module _ {X : Type 0} where
  -- A key below all of the keys is found nowhere.
  below_all : (k : ℕ) (es : List (ℕ × X)) →
      AllByRecursion (λ y. nat_cmp k y ≡ Less) (keys_of es) → map.find nat_cmp k es ≡ None
  below_all k [] a = refl
  below_all k (e ∷ es) a = ap (λ o. cond (is_eq o) (Some e.1) (map.find nat_cmp k es)) a.0 ∙
      below_all k es a.1

  rising_apart : (es : List (ℕ × X)) → IsStrictlySortedBy nat_cmp (keys_of es) → AreApart es
  unfolding IsStrictlySortedBy
  rising_apart [] s = tt
  rising_apart (e ∷ es) s = (below_all e.0 es s.0, rising_apart es s.1)

-- Amounts below a bound are so in each entry.
pub entries_below : (bound : ℕ) (q : Quotas) (es : List (ℕ × ℕ)) →
    IsStrictlySortedBy nat_cmp (keys_of es) → map.from_entries es ≡ q → AreBelow bound q →
    AllByRecursion (λ e. e.1 + 1 < bound) es
entries_below bound q es rising is below =
    all_found (λ v. v + 1 < bound) es (rising_apart es rising)
    (λ k v found. subst (λ n. n < bound)
    (ap (λ r. level r k) (sym is) ∙ ap copies_of (map.get-from_entries nat_cmp_total es k ∙ found))
    (below k))

-- what is put at a key leaves all below the bound
pub put_below : (bound : ℕ) (q : Quotas) (k n : ℕ) → AreBelow bound q → n < bound →
    AreBelow bound (with_level q k n)
put_below bound q k n below few = λ p. ⊎_elim
    (λ (e : p ≡ k). let here = level_at q k n p e in omega arith)
    (λ (e : p ≡ k → ⊥). let there = level_off q k n p e in let old = below p in omega arith)
    (cases_eq p k)

-- no amount is there
pub none_below : (t : tree.BTreeMap ℕ ℕ) → t.entries ≡ [] → AreBelow (2 ^ 127) (table_of t)
none_below t none = λ k.
    let there : level (table_of t) k ≡ 0 =
    ap (λ es. level (map.from_entries {R = nat_cmp} es) k) none ∙
    ap copies_of (map.get-empty nat_cmp k) in
    omega arith

pub nothing_there : (t : tree.BTreeMap ℕ ℕ) (k : ℕ) → tree.get nat_cmp t k ≡ None →
    level (table_of t) k ≡ 0
nothing_there t k none = ap copies_of (get-table_of t k ∙ none)

pub put_none : (t n : tree.BTreeMap ℕ ℕ) (k m : ℕ) → m ≡ 0 → tree.Updates nat_cmp t n k None →
    table_of n ≡ with_level (table_of t) k m
put_none t n k m none updates =
    table_of-remove t n k updates ∙ ap (with_level (table_of t) k) (sym none)

pub put_some : (t n : tree.BTreeMap ℕ ℕ) (k m : ℕ) → (m ≡ 0 → ⊥) →
    tree.Updates nat_cmp t n k (Some (m - 1)) → table_of n ≡ with_level (table_of t) k m
put_some t n k zero some updates = absurd (some refl)
put_some t n k (suc m) some updates =
    let less_one : suc m - 1 ≡ m = omega arith in
    table_of-insert t n k (suc m - 1) updates ∙ ap (map.insert (table_of t) k) less_one
