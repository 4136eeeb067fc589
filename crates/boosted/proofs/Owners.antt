-- The events of one owner leave a run of many owners.
use Rattle.std.proofs.Common.{◌≡◌, ℕ, ◌==◌, Bool, true, false, not, cond, List, [], ◌∷◌, ◌++◌, refl}
use Rattle.std.proofs.Common.{sym, ◌∙◌, subst, eqb-true}
use Rattle.std.specs.List.{filter, AllByRecursion}
use Rattle.calls.specs.Transactions.{Leads}
use Rattle.boosted.specs.Runs.{Swaps, own, others, AllApart, IsNewest}
use Rattle.boosted.proofs.Each.{weaker, both, each_append, each_rest, each_filter, each_passing}
use Rattle.boosted.proofs.Each.{differ, not_true}
use Rattle.boosted.proofs.Runs.{Leads-append, Leads-split, move_right, move_all_left}

module _ {E : Type 0} (apart : E → E → Type 0) (owner : E → ℕ) where
  apart_if : (b : Bool) (x : E) (es : List E) →
      AllByRecursion (λ f. (owner x ≡ owner f → ⊥) → apart x f) es → AllApart apart owner es →
      AllApart apart owner (cond b (x ∷ es) es)
  apart_if true x es p a = (p, a)
  apart_if false x es p a = a

  pub AllApart-filter : (test : E → Bool) (es : List E) → AllApart apart owner es →
      AllApart apart owner (filter test es)
  AllApart-filter test [] a = tt
  AllApart-filter test (x ∷ es) a =
      apart_if (test x) x _ (each_filter _ test es a.0) (AllApart-filter test es a.1)

  pub AllApart-push : (es : List E) (y : E) → AllApart apart owner es →
      AllByRecursion (λ x. (owner x ≡ owner y → ⊥) → apart x y) es →
      AllApart apart owner (es ++ y ∷ [])
  AllApart-push [] y a b = (tt, tt)
  AllApart-push (x ∷ es) y a b = (
    each_append _ es (y ∷ []) a.0 (b.0, tt),
    AllApart-push es y a.1 b.1,
  )

  AllApart-back : (xs ys : List E) → AllApart apart owner (xs ++ ys) → AllApart apart owner ys
  AllApart-back [] ys a = a
  AllApart-back (x ∷ xs) ys a = AllApart-back xs ys a.1

  pub AllApart-without : (xs : List E) (x : E) (ys : List E) → AllApart apart owner (xs ++ x ∷ ys) →
      AllApart apart owner (xs ++ ys)
  AllApart-without [] x ys a = a.1
  AllApart-without (z ∷ xs) x ys a = (each_rest _ xs x ys a.0, AllApart-without xs x ys a.1)

module _ {S E : Type 0} (does : S → E → S → Type 0) (owner : E → ℕ) (o : ℕ) where
  -- What one event more does to the two parts of a run.
  split_step : (b : Bool) (x : E) (mine theirs : List E) (s m t : S) →
      (b ≡ false → AllByRecursion (Swaps does x) mine) → does s x m → (n : S) →
      Leads does mine m n → Leads does theirs n t →
      (u : S) × Leads does (cond b (x ∷ mine) mine) s u ×
      Leads does (cond (not b) (x ∷ theirs) theirs) u t
  split_step true x mine theirs s m t swaps d n w v = (n, (m, d, w), v)
  split_step false x mine theirs s m t swaps d n w v =
      let r = move_right does mine x s m n (swaps refl) d w in
      (r.0, r.1, (n, r.2, v))

  -- The owner's events lead on alone, and then those of the others.
  split_owner : (es : List E) (s t : S) → AllApart (Swaps does) owner es → Leads does es s t →
      (m : S) × Leads does (own owner o es) s m × Leads does (others owner o es) m t
  split_owner [] s t a w = (s, refl, w)
  split_owner (x ∷ es) s t a w =
      let r = split_owner es w.0 t a.1 w.2 in
      split_step (owner x == o) x (own owner o es) (others owner o es) s w.0 t
      (λ h. each_passing (Swaps does x) (λ e. owner e == o) es
      (weaker _ _ (λ f k p. k (λ same. differ (owner x) o h (same ∙ eqb-true (owner f) o p))) es
      a.0))
      w.1 r.0 r.1 r.2

  -- A commit: the owner's events and then its laters lead on alone, and the events of the others
  -- lead from there to what the laters leave.
  pub commit : (es ds : List E) (s now after : S) → AllApart (Swaps does) owner es →
      AllByRecursion (λ d. AllByRecursion (λ a. (owner a ≡ o → ⊥) → Swaps does a d) es) ds →
      Leads does es s now → Leads does ds now after →
      (m n : S) × Leads does (own owner o es) s m × Leads does ds m n ×
      Leads does (others owner o es) n after
  commit es ds s now after a later w v =
      let r = split_owner es s now a w in
      let q = move_all_left does (others owner o es) ds r.0 now after
      (weaker _ _ (λ d. λ k. each_passing (λ e. Swaps does e d) (λ e. not (owner e == o)) es
      (weaker _ _ (λ e g p. g (λ same. differ (owner e) o (not_true _ p) same)) es k)) ds later)
      r.2 v in
      (r.0, q.0, r.1, q.1, q.2)

  -- The newest event of the owner moves to the end.
  pub last_newest : (es : List E) (x : E) (rest : List E) (s now : S) →
      AllApart (Swaps does) owner es → IsNewest owner o es x rest → Leads does es s now →
      (u : S) × Leads does rest s u × does u x now
  last_newest es x rest s now a new w =
      let w' = subst (λ l. Leads does l s now) new.is w in
      let a' = subst (AllApart (Swaps does) owner) new.is a in
      let p = Leads-split does new.before (x ∷ new.after) s now w' in
      let b = AllApart-back (Swaps does) owner new.before (x ∷ new.after) a' in
      let swaps = weaker _ _ (λ f (k : (k : _) × _). k.0 (λ same. k.1 (sym same ∙ new.mine)))
      new.after (both _ _ new.after b.0 new.none_newer) in
      let r = move_right does new.after x p.0 p.2.0 now swaps p.2.1 p.2.2 in (
        r.0,
        subst (λ l. Leads does l s r.0) (sym new.rest_is)
            (Leads-append does new.before new.after s p.0 r.0 p.1 r.1),
        r.2,
      )
