-- Runs: put together, taken apart, the state before, and events that change places.
use Rattle.std.proofs.Common.{◌≡◌, List, [], ◌∷◌, ◌++◌, refl, sym, ◌∙◌, subst}
use Rattle.std.specs.List.{AllByRecursion}
use Rattle.calls.specs.Transactions.{Leads}
use Rattle.boosted.specs.Runs.{Swaps}

module _ {S E : Type 0} (does : S → E → S → Type 0) where
  pub Leads-append : (xs ys : List E) (s m t : S) → Leads does xs s m → Leads does ys m t →
      Leads does (xs ++ ys) s t
  Leads-append [] ys s m t w v = subst (λ u. Leads does ys u t) (sym w) v
  Leads-append (x ∷ xs) ys s m t w v = (w.0, w.1, Leads-append xs ys w.0 m t w.2 v)

  pub Leads-split : (xs ys : List E) (s t : S) → Leads does (xs ++ ys) s t →
      (m : S) × Leads does xs s m × Leads does ys m t
  Leads-split [] ys s t w = (s, refl, w)
  Leads-split (x ∷ xs) ys s t w =
      let r = Leads-split xs ys w.0 t w.2 in (r.0, (w.0, w.1, r.1), r.2)

  pub Leads-push : (xs : List E) (y : E) (s m t : S) → Leads does xs s m → does m y t →
      Leads does (xs ++ y ∷ []) s t
  Leads-push xs y s m t w d = Leads-append xs (y ∷ []) s m t w (t, d, refl)

  -- where the state before one event is the only one, so is that before a run
  pub Leads-unique : (es : List E) (s u t : S) →
      AllByRecursion (λ e. (s u t : S) → does s e t → does u e t → s ≡ u) es → Leads does es s t →
      Leads does es u t → s ≡ u
  Leads-unique [] s u t back w v = w ∙ sym v
  Leads-unique (e ∷ es) s u t back w v =
      let same = Leads-unique es w.0 v.0 t back.1 w.2 v.2 in
      back.0 s u w.0 w.1 (subst (λ m. does u e m) (sym same) v.1)

  -- an event moves from the end to the front
  move_left : (es : List E) (b : E) (s m t : S) → AllByRecursion (λ a. Swaps does a b) es →
      Leads does es s m → does m b t → (u : S) × does s b u × Leads does es u t
  move_left [] b s m t swaps w d = (t, subst (λ v. does v b t) (sym w) d, refl)
  move_left (e ∷ es) b s m t swaps w d =
      let r = move_left es b w.0 m t swaps.1 w.2 d in
      let x = swaps.0 s w.0 r.0 w.1 r.1 in
      (x.0, x.1, (r.0, x.2, r.2))

  -- an event moves from the front to the end
  pub move_right : (es : List E) (a : E) (s m t : S) → AllByRecursion (λ b. Swaps does a b) es →
      does s a m → Leads does es m t → (u : S) × Leads does es s u × does u a t
  move_right [] a s m t swaps d w = (s, refl, subst (λ v. does s a v) w d)
  move_right (e ∷ es) a s m t swaps d w =
      let x = swaps.0 s m w.0 d w.1 in
      let r = move_right es a x.0 w.0 t swaps.1 x.2 w.2 in
      (r.0, (x.0, x.1, r.1), r.2)

  -- a list of events moves from the end to the front
  pub move_all_left : (es ds : List E) (s m t : S) →
      AllByRecursion (λ d. AllByRecursion (λ a. Swaps does a d) es) ds → Leads does es s m →
      Leads does ds m t → (u : S) × Leads does ds s u × Leads does es u t
  move_all_left es [] s m t swaps w v = (s, refl, subst (λ n. Leads does es s n) v w)
  move_all_left es (d ∷ ds) s m t swaps w v =
      let r = move_left es d s m v.0 swaps.0 w v.1 in
      let q = move_all_left es ds r.0 v.0 t swaps.1 r.2 v.2 in
      (q.0, (r.0, r.1, q.1), q.2)
