-- Quotas at one key after a change at one key.
use Rattle.std.proofs.Common.{◌≡◌, ℕ, zero, suc, ◌+◌, refl, sym, ◌∙◌, ap, subst, ⊎_elim, arith}
use Rattle.std.proofs.lemmas.Bool.{cases_eq}
use Rattle.std.specs.Cmp.{nat_cmp_total}
use Rattle.std.specs.FinMap.{get, same_map, nat_cmp-IsAntisymmetric}
use Rattle.calls.specs.Bags.{copies_of}
use Rattle.calls.specs.Quotas.{Quotas, level, with_level}
use Rattle.calls.proofs.BagPoints.{same_count}
use Rattle.calls.proofs.Points.{get_insert, get_insert_other, get_remove, get_remove_other}

one_more : (n : ℕ) → n + 1 ≡ suc n
one_more n = omega arith

pub level_at : (q : Quotas) (k n p : ℕ) → p ≡ k → level (with_level q k n) p ≡ n
level_at q k zero p e = ap copies_of (get_remove q k p e)
level_at q k (suc n) p e = ap copies_of (get_insert q k n p e) ∙ one_more n

pub level_off : (q : Quotas) (k n p : ℕ) → (p ≡ k → ⊥) → level (with_level q k n) p ≡ level q p
level_off q k zero p e = ap copies_of (get_remove_other q k p e)
level_off q k (suc n) p e = ap copies_of (get_insert_other q k n p e)

-- Quotas with the same amounts are the same.
pub same_quotas : (q r : Quotas) → ((k : ℕ) → level q k ≡ level r k) → q ≡ r
same_quotas q r e = same_map nat_cmp_total nat_cmp-IsAntisymmetric q r
    (λ k. same_count (get q k) (get r k) (e k))

pub with_same : (q : Quotas) (k : ℕ) → with_level q k (level q k) ≡ q
with_same q k = same_quotas _ q (λ p. ⊎_elim
    (λ (e : p ≡ k). level_at q k (level q k) p e ∙ ap (level q) (sym e))
    (λ (e : p ≡ k → ⊥). level_off q k (level q k) p e)
    (cases_eq p k))

pub with_twice : (q : Quotas) (k m n : ℕ) →
    with_level (with_level q k m) k n ≡ with_level q k n
with_twice q k m n = same_quotas _ _ (λ p. ⊎_elim
    (λ (e : p ≡ k). level_at (with_level q k m) k n p e ∙ sym (level_at q k n p e))
    (λ (e : p ≡ k → ⊥). level_off (with_level q k m) k n p e ∙ level_off q k m p e ∙
    sym (level_off q k n p e))
    (cases_eq p k))

pub with_other : (q : Quotas) (k j m n : ℕ) → (k ≡ j → ⊥) →
    with_level (with_level q k m) j n ≡ with_level (with_level q j n) k m
with_other q k j m n other = same_quotas _ _ (λ p. ⊎_elim
    (λ (e : p ≡ k). let off : p ≡ j → ⊥ = λ f. other (sym e ∙ f) in
    level_off (with_level q k m) j n p off ∙ level_at q k m p e ∙
    sym (level_at (with_level q j n) k m p e))
    (λ (e : p ≡ k → ⊥). ⊎_elim
    (λ (f : p ≡ j). level_at (with_level q k m) j n p f ∙ sym (level_at q j n p f) ∙
    sym (level_off (with_level q j n) k m p e))
    (λ (f : p ≡ j → ⊥). level_off (with_level q k m) j n p f ∙ level_off q k m p e ∙
    sym (level_off q j n p f) ∙ sym (level_off (with_level q j n) k m p e))
    (cases_eq p j))
    (cases_eq p k))

-- The amount at a key is changed.
abbrev pub changed : Quotas → ℕ → (ℕ → ℕ) → Quotas
changed q k f = with_level q k (f (level q k))

pub changed_twice : (q : Quotas) (k : ℕ) (f g : ℕ → ℕ) →
    changed (changed q k f) k g ≡ with_level q k (g (f (level q k)))
changed_twice q k f g =
    ap (λ n. with_level (changed q k f) k (g n)) (level_at q k (f (level q k)) k refl) ∙
    with_twice q k (f (level q k)) (g (f (level q k)))

-- Changes at two keys may change places, and at one where they do so at its amount.
pub changed_turned : (q : Quotas) (k j : ℕ) (f g : ℕ → ℕ) →
    (k ≡ j → g (f (level q k)) ≡ f (g (level q k))) →
    changed (changed q k f) j g ≡ changed (changed q j g) k f
changed_turned q k j f g turns = ⊎_elim
    (λ (e : k ≡ j). subst (λ i. changed (changed q k f) i g ≡ changed (changed q i g) k f) e
    (changed_twice q k f g ∙ ap (with_level q k) (turns e) ∙ sym (changed_twice q k g f)))
    (λ (e : k ≡ j → ⊥).
    ap (λ n. with_level (changed q k f) j (g n))
    (level_off q k (f (level q k)) j (λ d. e (sym d))) ∙
    with_other q k j (f (level q k)) (g (level q j)) e ∙
    ap (λ n. with_level (changed q j g) k (f n)) (sym (level_off q j (g (level q j)) k e)))
    (cases_eq k j)
