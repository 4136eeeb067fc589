-- What is in a list after a filter, and after one is put to its end.
use Rattle.std.proofs.Common.{◌≡◌, ◌≢◌, ℕ, ◌⊎◌, ◌==◌, inl, inr, Bool, true, false, not, cond, List}
use Rattle.std.proofs.Common.{[], ◌∷◌, ◌++◌, take, drop, take-append-drop, refl, sym, subst, ⊎_elim}
use Rattle.std.proofs.Common.{arith}
use Rattle.std.specs.List.{filter, insert, Contains}
use Rattle.std.proofs.lemmas.List.Elements.{Contains-push}
use Rattle.std.proofs.lemmas.List.Elements.{Contains-append_left, Contains-append_right}
use Rattle.std.proofs.lemmas.List.Elements.{Contains-append_cases}
use Rattle.calls.proofs.Parts.{only}
use Rattle.abstract_locks.specs.declared.table.Hold.{Hold}
use Rattle.abstract_locks.specs.Holds.{IsAdded, IsGivenUp}

module _ {X : Type 0} where
  module _ (p : X → Bool) where
    head_kept : (b : Bool) (x : X) (us : List X) → b ≡ true → Contains (cond b (x ∷ us) us) x
    head_kept true x us e = Contains-append_left (x ∷ []) us x (Contains-push [] x)
    head_kept false x us e = cc

    rest_kept : (b : Bool) (x y : X) (us : List X) → Contains us y → Contains (cond b (x ∷ us) us) y
    rest_kept true x y us h = Contains-append_right (x ∷ []) us y h
    rest_kept false x y us h = h

    -- what passes the test stays
    pub in_filter : (xs : List X) (y : X) → Contains xs y → p y ≡ true → Contains (filter p xs) y
    in_filter [] y h e = h
    in_filter (x ∷ xs) y h e =
        ⊎_elim
        (λ first. let same = only x y first in
        subst (Contains (cond (p x) (x ∷ filter p xs) (filter p xs))) same
        (head_kept (p x) x (filter p xs) (rw same e)))
        (λ later. rest_kept (p x) x y (filter p xs) (in_filter xs y later e))
        (Contains-append_cases (x ∷ []) xs y h)

    split : (b : Bool) (x y : X) (us : List X) → Contains (cond b (x ∷ us) us) y →
        ((b ≡ true) × (x ≡ y)) ⊎ Contains us y
    split true x y us h = ⊎_elim (λ first. inl (refl, only x y first)) (λ later. inr later)
        (Contains-append_cases (x ∷ []) us y h)
    split false x y us h = inr h

    -- what is left was there, and passes the test
    pub from_filter : (xs : List X) (y : X) → Contains (filter p xs) y →
        Contains xs y × (p y ≡ true)
    from_filter [] y h = let lt = h.1 in absurd (omega arith)
    from_filter (x ∷ xs) y h =
        ⊎_elim
        (λ first. (
          subst (Contains (x ∷ xs)) first.1
              (Contains-append_left (x ∷ []) xs x (Contains-push [] x)),
          rw (← first.1) first.0,
        ))
        (λ later. let rest = from_filter xs y later in
        (Contains-append_right (x ∷ []) xs y rest.0, rest.1))
        (split (p x) x y (filter p xs) h)

-- a hold that is put at a place
pub inserted_is_added : (holds : List Hold) (i : ℕ) (h : Hold) → IsAdded holds (insert holds i h) h
inserted_is_added holds i h x =
    let whole : take i holds ++ drop i holds ≡ holds = take-append-drop i holds in (
      λ inside. ⊎_elim
          (λ old. inl (subst (λ l. Contains l x) whole
          (Contains-append_left (take i holds) (drop i holds) x old)))
          (λ rest. ⊎_elim (λ one. inr (sym (only h x one)))
          (λ later. inl (subst (λ l. Contains l x) whole
          (Contains-append_right (take i holds) (drop i holds) x later)))
          (Contains-append_cases (h ∷ []) (drop i holds) x rest))
          (Contains-append_cases (take i holds) (h ∷ drop i holds) x inside),
      λ either. ⊎_elim
          (λ old. ⊎_elim (λ first. Contains-append_left (take i holds) (h ∷ drop i holds) x first)
          (λ later. Contains-append_right (take i holds) (h ∷ drop i holds) x
          (Contains-append_right (h ∷ []) (drop i holds) x later))
          (Contains-append_cases (take i holds) (drop i holds) x
          (subst (λ l. Contains l x) (sym whole) old)))
          (λ same. Contains-append_right (take i holds) (h ∷ drop i holds) x
          (Contains-append_left (h ∷ []) (drop i holds) x
          (subst (Contains (h ∷ [])) (sym same) (Contains-push [] h)))) either,
    )

pub test_says : (a b : ℕ) → not (a == b) ≡ true → a ≢ b
test_says a b e same = grind arith

pub says_test : (a b : ℕ) → a ≢ b → not (a == b) ≡ true
says_test a b n = grind arith

-- the holds of others are what is left of all
pub filtered_is_given_up : (owner : ℕ) (old new : List Hold) →
    new ≡ filter (λ h. not (h.owner == owner)) old → IsGivenUp old new owner
filtered_is_given_up owner old new is x = (
  λ inside. let both = from_filter (λ h. not (h.owner == owner)) old x
      (subst (λ l. Contains l x) is inside) in
      (both.0, test_says x.owner owner both.1),
  λ both. subst (λ l. Contains l x) (sym is)
      (in_filter (λ h. not (h.owner == owner)) old x both.0 (says_test x.owner owner both.1)),
)
