-- What a call leaves, and what the entries of a number left.
use Rattle.std.proofs.Common.{◌≡◌, ℕ, ◌+◌, ◌<◌, ◌⊎◌, inl, inr, ⊎_elim, List, [], ◌∷◌, length, map}
use Rattle.std.proofs.Common.{get_or, drop, refl, sym, ◌∙◌, ap, subst, arith}
use Rattle.std.specs.Prelude.{Contains, ◌↔◌}
use Rattle.std.proofs.lemmas.List.{drop_more}
use Rattle.std.proofs.lemmas.List.Elements.{Contains-push, Contains-push_cases}
use Rattle.std.proofs.lemmas.List.Elements.{Contains-append_cases, Contains-append_right}
use Rattle.calls.specs.declared.call.Call.{Call}
use Rattle.calls.specs.declared.reply.Reply.{Reply}
use Rattle.calls.specs.Rules.{left_by}
use Rattle.calls.specs.Transactions.{Event, Entry, Asked, Deferred}
use Rattle.undo_log.specs.declared.logged.Stamped.{Stamped}
use Rattle.undo_log.specs.Entries.{stamped_entry}
use Rattle.undo_log.specs.LeftCalls.{IsGoing, GoesTwice, IsLeftAmong, IsLeftBy}

only_one : (c d : Call) → Contains (c ∷ []) d → c ≡ d
only_one c d h = ⊎_elim (λ none. let below = none.1 in absurd (omega arith)) (λ same. same)
    (Contains-push_cases [] c d h)

-- What a call leaves is what is told of it, one call or none.
module _ (c : Call) (r : Reply) where
  leaves_same : (d other : Call) → d ∷ [] ≡ left_by c r → Contains (left_by c r) other ↔ (d ≡ other)
  leaves_same d other is = (
    λ h. only_one d other (subst (λ l. Contains l other) (sym is) h),
    λ same. subst (λ l. Contains l other) is (subst (Contains (d ∷ [])) same (Contains-push [] d)),
  )

  pub twice_same : (es : List (ℕ × Entry)) (n at : ℕ) (d : Call) → d ∷ [] ≡ left_by c r →
      GoesTwice es n (record { at = at; call = c; reply = r }) ↔ IsGoing es n at d
  twice_same es n at d is = (
    λ h. subst (IsGoing es n at) (sym ((leaves_same d h.0 is).0 h.1)) h.2,
    λ h. (d, (leaves_same d d is).1 refl, h),
  )

-- ---- one entry after another

either : {X : Type 0} (x : X) (xs : List X) (y : X) → Contains (x ∷ xs) y → (x ≡ y) ⊎ Contains xs y
either x xs y h =
    ⊎_elim (λ (one : Contains (x ∷ []) y). inl
    (⊎_elim (λ none. let below = none.1 in absurd (omega arith)) (λ same. same)
    (Contains-push_cases [] x y one))) (λ (k : Contains xs y). inr k)
    (Contains-append_cases (x ∷ []) xs y h)

left_by_it : (e : Entry) (x : Event) (at : ℕ) (c : Call) → e ≡ Asked x →
    (x.at ≡ at) × Contains (left_by x.call x.reply) c → IsLeftBy e at c
left_by_it e x at c is h = subst (λ v. IsLeftBy v at c) (sym is) h

it_leaves : (e : Entry) (at : ℕ) (c : Call) → IsLeftBy e at c →
    (x : Event) × (e ≡ Asked x) × (x.at ≡ at) × Contains (left_by x.call x.reply) c
it_leaves (Asked x) at c h = (x, refl, h.0, h.1)
it_leaves (Deferred p d) at c h = absurd h

module _ (at : ℕ) (c : Call) where
  -- It is left by the first entry, or by one behind.
  left_first : (e : Entry) (es : List Entry) →
      IsLeftAmong (e ∷ es) at c ↔ (IsLeftBy e at c ⊎ IsLeftAmong es at c)
  left_first e es = (
    λ h. ⊎_elim (λ (same : e ≡ Asked h.0). inl (left_by_it e h.0 at c same (h.2, h.3)))
        (λ (later : Contains es (Asked h.0)). inr (h.0, later, h.2, h.3))
        (either e es (Asked h.0) h.1),
    λ h. ⊎_elim
        (λ (mine : IsLeftBy e at c). let one = it_leaves e at c mine in
        (one.0, (0, omega arith, one.1), one.2, one.3))
        (λ (later : IsLeftAmong es at c).
        (later.0, Contains-append_right (e ∷ []) es (Asked later.0) later.1, later.2, later.3))
        h,
  )

  module _ (ss : List Stamped) (i : ℕ) (s : Stamped) (below : i < length ss)
      (is : s ≡ get_or ss i s) where
    next : map stamped_entry (drop i ss) ≡ stamped_entry s ∷ map stamped_entry (drop (i + 1) ss)
    next = ap (map stamped_entry)
        (drop_more ss i s below ∙ ap (λ v. v ∷ drop (i + 1) ss) (sym is))

    -- the entry at the place leaves it
    pub going_here : IsLeftBy (stamped_entry s) at c →
        IsLeftAmong (map stamped_entry (drop i ss)) at c
    going_here leaves = subst (λ l. IsLeftAmong l at c) (sym next) ((left_first _ _).1 (inl leaves))

    -- it does not
    pub going_behind : (IsLeftBy (stamped_entry s) at c → ⊥) →
        IsLeftAmong (map stamped_entry (drop i ss)) at c ↔
        IsLeftAmong (map stamped_entry (drop (i + 1) ss)) at c
    going_behind other = (
      λ h. ⊎_elim (λ (one : IsLeftBy (stamped_entry s) at c). absurd (other one))
          (λ (later : IsLeftAmong (map stamped_entry (drop (i + 1) ss)) at c). later)
          ((left_first _ _).0 (subst (λ l. IsLeftAmong l at c) next h)),
      λ h. subst (λ l. IsLeftAmong l at c) (sym next) ((left_first _ _).1 (inr h)),
    )
