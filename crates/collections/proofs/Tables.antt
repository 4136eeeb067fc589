-- An ordered map of std seen as a finite map.
use Rattle.std.proofs.Common.{◌≡◌, ℕ, ◌<◌, ◌≤◌, false, cond, Option, Some, None, IsSome, List, []}
use Rattle.std.proofs.Common.{◌∷◌, refl, sym, ◌∙◌, ap, subst, ⊎_elim, arith, true≢false}
use Rattle.std.proofs.lemmas.Bool.{cases_lt}
use Rattle.std.specs.declared.cmp.Ordering.{Ordering}
use Rattle.std.specs.declared.ops.Bound.{Bound}
use Rattle.std.specs.Ordering.{nat_cmp, eq_by_cmp, is_gt}
use Rattle.std.specs.Cmp.{nat_cmp_total, eq_by_cmp_equiv, nat_cmp_is, ranked}
use Rattle.std.specs.Map.{lookup}
use Rattle.std.specs.FinMap as map
use Rattle.std.specs.BTreeMap as tree
use Rattle.std.specs.BTreeMap.Range.{IsLeBy, IsRangeOf}
use Rattle.calls.specs.Maps.{IsCeiling, HasNoCeiling}

turned : (k q : ℕ) → eq_by_cmp nat_cmp k q ≡ eq_by_cmp nat_cmp q k
turned k q = (eq_by_cmp_equiv nat_cmp_total).symm k q

module _ {X : Type 0} where
  -- The map of the entries.
  abbrev pub table_of : tree.BTreeMap ℕ X → map.FinMap nat_cmp X
  table_of t = map.from_entries t.entries

  find-lookup : (es : List (ℕ × X)) (q : ℕ) →
      map.find nat_cmp q es ≡ lookup (tree.is_at (nat_cmp q)) es
  find-lookup [] q = refl
  find-lookup (e ∷ es) q = ap (cond (eq_by_cmp nat_cmp q e.0) (Some e.1)) (find-lookup es q)

  pub get-table_of : (t : tree.BTreeMap ℕ X) (q : ℕ) →
      map.get (table_of t) q ≡ tree.get nat_cmp t q
  get-table_of t q = map.get-from_entries nat_cmp_total t.entries q ∙ find-lookup t.entries q

  pub table_of-insert : (t n : tree.BTreeMap ℕ X) (k : ℕ) (v : X) →
      tree.Updates nat_cmp t n k (Some v) → table_of n ≡ map.insert (table_of t) k v
  table_of-insert t n k v u = map.same_map nat_cmp_total map.nat_cmp-IsAntisymmetric _ _ (λ q.
      get-table_of n q ∙ u.0 q
      ∙ ap (λ b. cond b (Some v) (tree.get nat_cmp t q)) (turned k q) ∙
      ap (cond (eq_by_cmp nat_cmp q k) (Some v)) (sym (get-table_of t q))
      ∙ sym (map.get-insert nat_cmp_total (table_of t) k v q))

  pub table_of-remove : (t n : tree.BTreeMap ℕ X) (k : ℕ) → tree.Updates nat_cmp t n k None →
      table_of n ≡ map.remove (table_of t) k
  table_of-remove t n k u = map.same_map nat_cmp_total map.nat_cmp-IsAntisymmetric _ _ (λ q.
      get-table_of n q ∙ u.0 q
      ∙ ap (λ b. cond b None (tree.get nat_cmp t q)) (turned k q) ∙
      ap (cond (eq_by_cmp nat_cmp q k) None) (sym (get-table_of t q))
      ∙ sym (map.get-remove nat_cmp_total (table_of t) k q))

abbrev Tree : Type 0
Tree = tree.BTreeMap ℕ (List ℕ)

upto : (a b : ℕ) → IsLeBy nat_cmp a b → a ≤ b
upto a b h = ⊎_elim
    (λ (l : b < a). absurd (true≢false (ap is_gt (nat_cmp_is a b Ordering.Greater l) ∙ h)))
    (λ (l : a ≤ b). l)
    (cases_lt b a)

not_gt : (a b : ℕ) (o : Ordering) → o ≡ nat_cmp a b → a ≤ b → is_gt o ≡ false
not_gt a b Ordering.Less e l = refl
not_gt a b Ordering.Equal e l = refl
not_gt a b Ordering.Greater e l =
    absurd (let h : b < a = ranked a b Ordering.Greater e in omega arith)

from_upto : (a b : ℕ) → a ≤ b → IsLeBy nat_cmp a b
from_upto a b l = not_gt a b (nat_cmp a b) refl l

nothing : (o : Option (List ℕ)) → (IsSome o → ⊥) → o ≡ None
nothing None h = refl
nothing (Some v) h = absurd (h refl)

module _ (t : Tree) (k : ℕ) (r : List (ℕ × List ℕ))
    (range : IsRangeOf nat_cmp (Bound.Included k) Bound.Unbounded t r) where
  pub is_ceiling : (j : ℕ) (v : List ℕ) (rest : List (ℕ × List ℕ)) → r ≡ (j, v) ∷ rest →
      IsCeiling (table_of t) k j v
  is_ceiling j v rest is =
      let here = subst (IsRangeOf nat_cmp (Bound.Included k) Bound.Unbounded t) is range in
      record {
        there = get-table_of t j ∙ here.1.1;
        upto = upto k j here.1.0.0;
        none_between = λ i from below. get-table_of t i ∙
            nothing _ (λ some. let l : j ≤ i = upto j i (here.2 i (from_upto k i from, tt) some) in
            omega arith);
      }

  pub has_no_ceiling : r ≡ [] → HasNoCeiling (table_of t) k
  has_no_ceiling is = λ i from top. get-table_of t i ∙ range.5 is i (from_upto k i from, tt)
