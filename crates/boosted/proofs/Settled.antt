-- What the live events lead from, by the laws.
use Rattle.std.proofs.Common.{◌≡◌, ℕ, List, [], ◌∷◌, sym, subst}
use Rattle.std.specs.List.{AllByRecursion}
use Rattle.calls.specs.Transactions.{Leads}
use Rattle.boosted.specs.Runs.{Swaps, own, others, AllApart, Laws, IsNewest}
use Rattle.boosted.proofs.Runs.{Leads-unique}
use Rattle.boosted.proofs.Each.{weaker, each_both}
use Rattle.boosted.proofs.Owners.{commit, last_newest}

module _ {S E : Type 0} {does : S → E → S → Type 0} {undoes : E → S → S → Type 0}
    {apart : E → E → Type 0} {asked : E → Type 0} {late : E → Type 0}
    (laws : Laws does undoes apart asked late) (owner : E → ℕ) where
  -- There is at most one state from which the live events lead to what is there now.
  pub settled_unique : (es : List E) (s u now : S) → AllByRecursion asked es → Leads does es s now →
      Leads does es u now → s ≡ u
  settled_unique es s u now ask w v =
      Leads-unique does es s u now (weaker _ _
      (λ e a s u t d b. laws.inverse_only e u t s a b (laws.inverse e s t a d)) es ask) w v

  AllApart-swaps : (es : List E) → AllByRecursion asked es → AllApart apart owner es →
      AllApart (Swaps does) owner es
  AllApart-swaps [] ask a = tt
  AllApart-swaps (e ∷ es) ask a = (
    each_both asked _ _ es ask.1 a.0 (λ f g p differ. laws.commute e f ask.0 g (p differ)),
    AllApart-swaps es ask.1 a.1,
  )

  -- A commit leads from the settled state to the next one by the owner's events and its laters
  -- alone.
  pub settled_commit : (o : ℕ) (es ds : List E) (s now after : S) → AllByRecursion asked es →
      AllApart apart owner es → AllByRecursion late ds →
      AllByRecursion (λ d. AllByRecursion (λ a. (owner a ≡ o → ⊥) → apart a d) es) ds →
      Leads does es s now → Leads does ds now after →
      (m n : S) × Leads does (own owner o es) s m × Leads does ds m n ×
      Leads does (others owner o es) n after
  settled_commit o es ds s now after ask a late_all away =
      commit does owner o es ds s now after (AllApart-swaps es ask a)
      (each_both late _ _ ds late_all away
      (λ d l p. each_both asked _ _ es ask p
      (λ e g q differ. laws.moves_left e d g l (q differ))))

  -- The owner's newest event can be undone.
  pub settled_newest : (o : ℕ) (es : List E) (x : E) (rest : List E) (s now : S) →
      AllByRecursion asked es → asked x → AllApart apart owner es → IsNewest owner o es x rest →
      Leads does es s now → (u : S) × undoes x now u
  settled_newest o es x rest s now ask askx a new w =
      let r = last_newest does owner o es x rest s now (AllApart-swaps es ask a) new w in
      (r.0, laws.inverse x r.0 now askx r.2)

  -- Undoing the owner's newest event leaves the settled state, and the live events without it.
  pub settled_back : (o : ℕ) (es : List E) (x : E) (rest : List E) (s now after : S) →
      AllByRecursion asked es → asked x → AllApart apart owner es → IsNewest owner o es x rest →
      Leads does es s now → undoes x now after → Leads does rest s after
  settled_back o es x rest s now after ask askx a new w undo =
      let r = last_newest does owner o es x rest s now (AllApart-swaps es ask a) new w in
      let same : after ≡ r.0 = laws.inverse_only x r.0 now after askx r.2 undo in
      subst (λ v. Leads does rest s v) (sym same) r.1
