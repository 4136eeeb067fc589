-- Which numbers are live, and which are falling, after one more or one fewer.
use Rattle.std.proofs.Common.{◌≡◌, ℕ, ◌⊎◌, inl, inr, ⊎_elim, Bool, true, false, cond, Option, Some}
use Rattle.std.proofs.Common.{None, is_some, sym, ◌∙◌, ap, subst}
use Rattle.std.specs.Prelude.{◌↔◌}
use Rattle.std.specs.FinMap as maps
use Rattle.std.specs.Ordering.{nat_cmp}
use Rattle.std.proofs.lemmas.Bool.{cases_eq}
use Rattle.calls.proofs.Points.{get_insert, get_insert_other, get_remove, get_remove_other}
use Rattle.undo_log.specs.Logs.{Statuses, Lives, Falls, fallen}

none_is : {X : Type 0} (x : X) → None ≡ Some x → ⊥
none_is x e = cc

not_both : Some false ≡ Some true → ⊥
not_both e = cc

none_lives : (o : Option Bool) → o ≡ None → is_some o ≡ true → ⊥
none_lives o none some = cc

pub nobody : (n : ℕ) → Lives maps.empty n → ⊥
nobody n lives = none_lives (maps.get maps.empty n) (maps.get-empty {X = Bool} nat_cmp n) lives

module _ (live : Statuses) (n : ℕ) where
  -- a live number that falls
  pub fallen_is : Lives live n → fallen live n ≡ maps.insert live n true
  fallen_is l = ap (λ b. cond b (maps.insert live n true) live) l

  pub lives_more : (b : Bool) (k : ℕ) → ((n ≡ k) ⊎ Lives live k) ↔ Lives (maps.insert live n b) k
  lives_more b k = (
    λ h. ⊎_elim
        (λ (same : k ≡ n). ap is_some (get_insert live n b k same))
        (λ (other : k ≡ n → ⊥). ⊎_elim (λ (same : n ≡ k). absurd (other (sym same)))
        (λ (l : Lives live k). ap is_some (get_insert_other live n b k other) ∙ l) h)
        (cases_eq k n),
    λ h. ⊎_elim
        (λ (same : k ≡ n). inl (sym same))
        (λ (other : k ≡ n → ⊥). inr (ap is_some (sym (get_insert_other live n b k other)) ∙ h))
        (cases_eq k n),
  )

  pub falls_more : (k : ℕ) → ((n ≡ k) ⊎ Falls live k) ↔ Falls (maps.insert live n true) k
  falls_more k = (
    λ h. ⊎_elim
        (λ (same : k ≡ n). get_insert live n true k same)
        (λ (other : k ≡ n → ⊥). ⊎_elim (λ (same : n ≡ k). absurd (other (sym same)))
        (λ (f : Falls live k). get_insert_other live n true k other ∙ f) h)
        (cases_eq k n),
    λ h. ⊎_elim
        (λ (same : k ≡ n). inl (sym same))
        (λ (other : k ≡ n → ⊥). inr (sym (get_insert_other live n true k other) ∙ h))
        (cases_eq k n),
  )

  -- who begins is not falling
  pub falls_fresh : (Lives live n → ⊥) → (k : ℕ) → Falls live k ↔ Falls (maps.insert live n false) k
  falls_fresh fresh k = (
    λ f. get_insert_other live n false k (λ same. fresh (subst (Lives live) same (ap is_some f))) ∙
        f,
    λ h. ⊎_elim
        (λ (same : k ≡ n). absurd (not_both (sym (get_insert live n false k same) ∙ h)))
        (λ (other : k ≡ n → ⊥). sym (get_insert_other live n false k other) ∙ h)
        (cases_eq k n),
  )

  pub lives_fewer : (k : ℕ) → (Lives live k × (k ≡ n → ⊥)) ↔ Lives (maps.remove live n) k
  lives_fewer k = (
    λ h. ap is_some (get_remove_other live n k h.1) ∙ h.0,
    λ h. let other : k ≡ n → ⊥ = λ same. none_lives (maps.get (maps.remove live n) k)
        (get_remove live n k same) h in
        (ap is_some (sym (get_remove_other live n k other)) ∙ h, other),
  )

  pub falls_fewer : (k : ℕ) → (Falls live k × (k ≡ n → ⊥)) ↔ Falls (maps.remove live n) k
  falls_fewer k = (
    λ h. get_remove_other live n k h.1 ∙ h.0,
    λ h. let other : k ≡ n → ⊥ = λ same. none_is true (sym (get_remove live n k same) ∙ h) in
        (sym (get_remove_other live n k other) ∙ h, other),
  )
