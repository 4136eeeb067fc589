-- What holds of each value that is found in a list of entries holds of all that stand there.
use Rattle.std.proofs.Common.{◌≡◌, ℕ, cond, Some, None, List, [], ◌∷◌, ⊎_elim, ap, sym, ◌∙◌}
use Rattle.std.proofs.lemmas.Bool.{cases_eq}
use Rattle.std.proofs.lemmas.Option.{none-some}
use Rattle.std.specs.List.{AllByRecursion}
use Rattle.std.specs.Ordering.{nat_cmp, is_eq}
use Rattle.std.specs.Cmp.{nat_cmp_total, tied_itself}
use Rattle.std.specs.FinMap.{find, nat_cmp-IsAntisymmetric}
use Rattle.calls.proofs.BagPoints.{not_tied}

module _ {X : Type 0} where
  -- No key stands twice.
  abbrev pub AreApart : List (ℕ × X) → Type 0
  AreApart [] = Unit {0}
  AreApart (e ∷ es) = (find nat_cmp e.0 es ≡ None) × AreApart es

  pub found_first : (e : ℕ × X) (es : List (ℕ × X)) → find nat_cmp e.0 (e ∷ es) ≡ Some e.1
  found_first e es = ap (λ o. cond (is_eq o) (Some e.1) (find nat_cmp e.0 es))
      (tied_itself nat_cmp_total e.0)

  pub found_behind : (e : ℕ × X) (es : List (ℕ × X)) (k : ℕ) → (k ≡ e.0 → ⊥) →
      find nat_cmp k (e ∷ es) ≡ find nat_cmp k es
  found_behind e es k other = ap (λ b. cond b (Some e.1) (find nat_cmp k es))
      (not_tied (nat_cmp k e.0) (λ t. other (nat_cmp-IsAntisymmetric k e.0 t)))

  module _ (P : X → Type 0) where
    pub all_found : (es : List (ℕ × X)) → AreApart es →
        ((k : ℕ) (v : X) → find nat_cmp k es ≡ Some v → P v) → AllByRecursion (λ e. P e.1) es
    all_found [] apart each = tt
    all_found (e ∷ es) apart each = (
      each e.0 e.1 (found_first e es),
      all_found es apart.1 (λ k v found. each k v (⊎_elim
          (λ (same : k ≡ e.0). absurd (none-some v (sym apart.0 ∙
          ap (λ i. find nat_cmp i es) (sym same) ∙ found)))
          (λ (other : k ≡ e.0 → ⊥). found_behind e es k other ∙ found)
          (cases_eq k e.0))),
    )
