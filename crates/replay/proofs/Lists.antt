-- Lists that lead on, lists of which each has something, and numbers in their order.
use Rattle.std.proofs.Common.{◌≡◌, ◌⊎◌, inl, inr, ⊎_elim, ℕ, ◌≤◌, ◌<◌, List, [], ◌∷◌, ◌++◌, refl}
use Rattle.std.proofs.Common.{sym, ◌∙◌, ap, subst, append_assoc}
use Rattle.std.proofs.lemmas.Bool.{cases_lt}
use Rattle.std.specs.List.{flat_map}
use Rattle.calls.specs.Transactions.{Leads}

module _ {S E : Type 0} (does : S → E → S → Type 0) where
  pub leads_append : (xs ys : List E) (s t u : S) → Leads does xs s t → Leads does ys t u →
      Leads does (xs ++ ys) s u
  leads_append [] ys s t u e l = rw e l
  leads_append (x ∷ xs) ys s t u l m = (l.0, l.1, leads_append xs ys l.0 t u l.2 m)

  pub leads_push : (xs : List E) (x : E) (s t u : S) → Leads does xs s t → does t x u →
      Leads does (xs ++ x ∷ []) s u
  leads_push xs x s t u l d = leads_append xs (x ∷ []) s t u l (u, d, refl)

  pub leads_split : (xs ys : List E) (s u : S) → Leads does (xs ++ ys) s u →
      (t : S) × Leads does xs s t × Leads does ys t u
  leads_split [] ys s u l = (s, refl, l)
  leads_split (x ∷ xs) ys s u l =
      let r = leads_split xs ys l.0 u l.2 in
      (r.0, (l.0, l.1, r.1), r.2)

  -- where each step has one end, a list of them has one
  pub leads_exact : ((e : E) (s t u : S) → does s e t → does s e u → t ≡ u) →
      (es : List E) (s t u : S) → Leads does es s t → Leads does es s u → t ≡ u
  leads_exact exact [] s t u a b = sym a ∙ b
  leads_exact exact (e ∷ es) s t u a b =
      leads_exact exact es a.0 t u a.2
      (subst (λ m. Leads does es m u) (exact e s b.0 a.0 b.1 a.1) b.2)

pub flat_map-append : {X A : Type 0} (f : X → List A) (xs ys : List X) →
    flat_map f (xs ++ ys) ≡ flat_map f xs ++ flat_map f ys
flat_map-append f [] ys = refl
flat_map-append f (x ∷ xs) ys =
    ap (λ l. f x ++ l) (flat_map-append f xs ys) ∙
    sym (append_assoc (f x) (flat_map f xs) (flat_map f ys))

pub upto_or : (k i : ℕ) → (k ≤ i) ⊎ (i < k)
upto_or k i = ⊎_elim inr inl (cases_lt i k)
