-- Holds in several lists, which are together in one.
use Rattle.std.proofs.Common.{◌≡◌, ◌≢◌, ℕ, zero, suc, ◌⊎◌, inl, inr, List, [], ◌∷◌, ◌++◌, get_or}
use Rattle.std.proofs.Common.{sym, subst, ap, ⊎_elim, arith}
use Rattle.std.specs.List.{Contains, flat_map}
use Rattle.std.proofs.lemmas.Bool.{cases_eq}
use Rattle.std.proofs.lemmas.List.Elements.{Contains-append_left, Contains-append_right}
use Rattle.std.proofs.lemmas.List.Elements.{Contains-append_cases, Contains-push}
use Rattle.std.proofs.lemmas.List.Elements.{Contains-push_cases}
use Rattle.calls.proofs.ModeLaws.{same_or_other}
use Rattle.abstract_locks.specs.declared.table.Hold.{Hold}
use Rattle.abstract_locks.specs.Holds.{IsAdded, IsGivenUp}

pub in_none : {P : Type 0} (h : Hold) → Contains [] h → P
in_none h there = let lt = there.1 in absurd (omega arith)

module _ {X : Type 0} (holds : X → List Hold) (d : X) (empty : holds d ≡ []) where
  -- what is in one of them is in all together
  pub in_one : (xs : List X) (i : ℕ) (h : Hold) → Contains (holds (get_or xs i d)) h →
      Contains (flat_map holds xs) h
  in_one [] i h there = in_none h (subst (λ l. Contains l h) empty there)
  in_one (x ∷ xs) zero h there = Contains-append_left (holds x) (flat_map holds xs) h there
  in_one (x ∷ xs) (suc i) h there =
      Contains-append_right (holds x) (flat_map holds xs) h (in_one xs i h there)

  -- what is in all together is in one of them
  pub from_one : (xs : List X) (h : Hold) → Contains (flat_map holds xs) h →
      (i : ℕ) × Contains (holds (get_or xs i d)) h
  from_one [] h there = in_none h there
  from_one (x ∷ xs) h there =
      ⊎_elim (λ here. (0, here))
      (λ later. let rest = from_one xs h later in (suc rest.0, rest.1))
      (Contains-append_cases (holds x) (flat_map holds xs) h there)

-- one is put to the end
pub pushed_is_added : (xs : List Hold) (h : Hold) → IsAdded xs (xs ++ h ∷ []) h
pushed_is_added xs h g = (
  λ there. ⊎_elim (λ old. inl old) (λ same. inr (sym same)) (Contains-push_cases xs h g there),
  λ either. ⊎_elim (λ old. Contains-append_left xs (h ∷ []) g old)
      (λ same. subst (Contains (xs ++ h ∷ [])) (sym same) (Contains-push xs h)) either,
)

-- where an owner has no hold nothing is left to give up
pub none_to_give_up : (xs : List Hold) (owner : ℕ) →
    ((h : Hold) → Contains xs h → h.owner ≢ owner) → IsGivenUp xs xs owner
none_to_give_up xs owner none h = (λ there. (there, none h there), λ both. both.0)

-- ---- whether a hold is in a list

same_hold : (g h : Hold) → (g ≡ h) ⊎ (g ≢ h)
same_hold g h =
    ⊎_elim
    (λ owner. ⊎_elim
    (λ at. ⊎_elim
    (λ low. ⊎_elim
    (λ high. ⊎_elim
    (λ mode. inl (λ i. record {
      owner = owner i;
      at = at i;
      need = record { low = low i; high = high i; mode = mode i };
    }))
    (λ other. inr (λ e. other (ap (λ (h : Hold). h.need.mode) e)))
    (same_or_other g.need.mode h.need.mode))
    (λ other. inr (λ e. other (ap (λ (h : Hold). h.need.high) e)))
    (cases_eq g.need.high h.need.high))
    (λ other. inr (λ e. other (ap (λ (h : Hold). h.need.low) e)))
    (cases_eq g.need.low h.need.low))
    (λ other. inr (λ e. other (ap (λ (h : Hold). h.at) e)))
    (cases_eq g.at h.at))
    (λ other. inr (λ e. other (ap (λ (h : Hold). h.owner) e)))
    (cases_eq g.owner h.owner)

is_in_or_not : (xs : List Hold) (h : Hold) → Contains xs h ⊎ (Contains xs h → ⊥)
is_in_or_not [] h = inr (λ there. in_none h there)
is_in_or_not (x ∷ xs) h =
    ⊎_elim
    (λ same. inl (Contains-append_left (x ∷ []) xs h (subst (Contains (x ∷ [])) same
    (Contains-push [] x))))
    (λ other. ⊎_elim (λ later. inl (Contains-append_right (x ∷ []) xs h later))
    (λ none. inr (λ there. ⊎_elim
    (λ first. ⊎_elim (λ nil. in_none h nil) (λ same. other same) (Contains-push_cases [] x h first))
    (λ later. none later) (Contains-append_cases (x ∷ []) xs h there)))
    (is_in_or_not xs h))
    (same_hold x h)

-- what is not missing is there
pub is_there : (xs : List Hold) (h : Hold) → ((Contains xs h → ⊥) → ⊥) → Contains xs h
is_there xs h no_miss =
    ⊎_elim (λ there. there) (λ none. absurd (no_miss none)) (is_in_or_not xs h)
