-- An ordered set of std seen as a finite set, and an ordered map as a finite map.
use Rattle.std.proofs.Common.{◌≡◌, ℕ, ◌+◌, ◌-◌, ◌<◌, Bool, true, false, cond, ◌||◌, ◌&&◌, not}
use Rattle.std.proofs.Common.{length, List, [], ◌∷◌, refl, sym, ◌∙◌, ap, arith, true≢false}
use Rattle.std.specs.declared.cmp.Ordering.{Ordering}
use Rattle.std.specs.Ordering.{nat_cmp, eq_by_cmp, is_lt, is_gt}
use Rattle.std.specs.Cmp.{nat_cmp_total, eq_by_cmp_equiv, nat_cmp_is}
use Rattle.std.specs.FinSet as set
use Rattle.std.specs.BTreeSet as tree

-- The set of the keys.
abbrev pub set_of : tree.BTreeSet ℕ → set.FinSet nat_cmp
set_of t = set.from_list t.keys

pub contains-set_of : (t : tree.BTreeSet ℕ) (q : ℕ) →
    set.contains (set_of t) q ≡ tree.contains nat_cmp t q
contains-set_of t q = set.contains-from_list nat_cmp_total t.keys q

turned : (k q : ℕ) → eq_by_cmp nat_cmp k q ≡ eq_by_cmp nat_cmp q k
turned k q = (eq_by_cmp_equiv nat_cmp_total).symm k q

then_true : (b c : Bool) → cond b true c ≡ (b || c)
then_true true c = refl
then_true false c = refl

then_false : (b c : Bool) → cond b false c ≡ (not b && c)
then_false true c = refl
then_false false c = refl

pub set_of-insert : (t n : tree.BTreeSet ℕ) (k : ℕ) → tree.Updates nat_cmp t n k true →
    set_of n ≡ set.insert (set_of t) k
set_of-insert t n k u = set.same_set nat_cmp_total set.nat_cmp-IsAntisymmetric _ _ (λ q.
    contains-set_of n q ∙ u.0 q ∙ then_true (eq_by_cmp nat_cmp k q) (tree.contains nat_cmp t q)
    ∙ ap (λ b. b || tree.contains nat_cmp t q) (turned k q) ∙
    ap (λ b. eq_by_cmp nat_cmp q k || b) (sym (contains-set_of t q))
    ∙ sym (set.contains-insert nat_cmp_total (set_of t) k q))

pub set_of-remove : (t n : tree.BTreeSet ℕ) (k : ℕ) → tree.Updates nat_cmp t n k false →
    set_of n ≡ set.remove (set_of t) k
set_of-remove t n k u = set.same_set nat_cmp_total set.nat_cmp-IsAntisymmetric _ _ (λ q.
    contains-set_of n q ∙ u.0 q ∙ then_false (eq_by_cmp nat_cmp k q) (tree.contains nat_cmp t q)
    ∙ ap (λ b. not b && tree.contains nat_cmp t q) (turned k q) ∙
    ap (λ b. not (eq_by_cmp nat_cmp q k) && b) (sym (contains-set_of t q))
    ∙ sym (set.contains-remove nat_cmp_total (set_of t) k q))

decided : (b : Bool) → (b ≡ true → ⊥) → b ≡ false
decided true h = absurd (h refl)
decided false h = refl

-- what is not in the set: the number after the last, the one before the first, and each where there
-- is no key
pub none_above : (t : tree.BTreeSet ℕ) (k : ℕ) → tree.IsUpperBound nat_cmp t k →
    set.contains (set_of t) (k + 1) ≡ false
none_above t k last = contains-set_of t (k + 1) ∙ decided _ (λ e.
    true≢false (ap is_lt (nat_cmp_is k (k + 1) Ordering.Less (omega arith)) ∙ last (k + 1) e))

pub none_below : (t : tree.BTreeSet ℕ) (k : ℕ) → 0 < k → tree.IsLowerBound nat_cmp t k →
    set.contains (set_of t) (k - 1) ≡ false
none_below t k l first = contains-set_of t (k - 1) ∙ decided _ (λ e.
    true≢false (ap is_gt (nat_cmp_is k (k - 1) Ordering.Greater (omega arith)) ∙ first (k - 1) e))

no_key : (ks : List ℕ) (q : ℕ) → (0 < length ks → ⊥) →
    set.contains (set.from_list {R = nat_cmp} ks) q ≡ false
no_key [] q h = set.contains-empty nat_cmp q
no_key (x ∷ ks) q h = absurd (h (omega arith))

pub none_at_all : (t : tree.BTreeSet ℕ) (q : ℕ) → (0 < length t.keys → ⊥) →
    set.contains (set_of t) q ≡ false
none_at_all t q = no_key t.keys q
