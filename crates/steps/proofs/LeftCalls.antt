-- What calls of a number have left to its commit, as the theory has it and as the machine has it.
use Rattle.std.proofs.Common.{◌≡◌, ℕ, ◌==◌, ◌⊎◌, inl, inr}
use Rattle.std.proofs.Common.{⊎_elim, List, [], ◌∷◌, map, refl, ap}
use Rattle.std.proofs.Common.{subst, arith}
use Rattle.std.specs.Prelude.{Contains}
use Rattle.std.specs.List.{filter, AllByRecursion}
use Rattle.std.proofs.lemmas.List.Elements.{Contains-push, Contains-push_cases}
use Rattle.std.proofs.lemmas.List.Elements.{Contains-append_left, Contains-append_right}
use Rattle.std.proofs.lemmas.List.Elements.{Contains-append_cases}
use Rattle.calls.specs.declared.call.Call.{Call}
use Rattle.calls.specs.declared.reply.Reply.{Reply}
use Rattle.calls.specs.Rules.{left_by}
use Rattle.calls.specs.Transactions.{Event, Entry, Asked, Deferred, own}
use Rattle.boosted.specs.Runs as runs
use Rattle.undo_log.specs.LeftCalls.{IsGoing, GoesTwice}
use Rattle.steps.specs.Theory.Rules.{Has, Lacks}
use Rattle.steps.specs.Theory.Journal as journal
use Rattle.steps.specs.Theory.Machine.{lefts}
use Rattle.steps.specs.Theory.Collections.{later_of}
use Rattle.steps.specs.Sound.{all_owned}
use Rattle.steps.proofs.Theory.Lists.{every, each_map, filter_has, has_filter, append_has}
use Rattle.steps.proofs.OwnedEntries.{owner, left}

module _ {X : Type 0} where
  pub has_contains : (xs : List X) (x : X) → Has xs x → Contains xs x
  has_contains [] x h = absurd h
  has_contains (y ∷ ys) x h =
      ⊎_elim (λ (same : y ≡ x). subst (Contains (y ∷ ys)) same
      (Contains-append_left (y ∷ []) ys y (Contains-push [] y)))
      (λ (k : Has ys x). Contains-append_right (y ∷ []) ys x (has_contains ys x k)) h

  holds_first : (y : X) (ys : List X) (x : X) → Contains (y ∷ ys) x → (y ≡ x) ⊎ Contains ys x
  holds_first y ys x h =
      ⊎_elim
      (λ (one : Contains (y ∷ []) x). inl
      (⊎_elim (λ none. let below = none.1 in absurd (omega arith)) (λ same. same)
      (Contains-push_cases [] y x one)))
      (λ (more : Contains ys x). inr more)
      (Contains-append_cases (y ∷ []) ys x h)

  pub contains_has : (xs : List X) (x : X) → Contains xs x → Has xs x
  contains_has [] x h = let below = h.1 in absurd (omega arith)
  contains_has (y ∷ ys) x h = ⊎_elim (λ (same : y ≡ x). inl same)
      (λ (more : Contains ys x). inr (contains_has ys x more)) (holds_first y ys x h)

module _ {X Y : Type 0} (f : X → Y) where
  has_map : (xs : List X) (x : X) → Has xs x → Has (map f xs) (f x)
  has_map [] x h = absurd h
  has_map (y ∷ ys) x h = ⊎_elim (λ (same : y ≡ x). inl (ap f same))
      (λ (k : Has ys x). inr (has_map ys x k)) h

  map_has : (xs : List X) (y : Y) → Has (map f xs) y → (x : X) × Has xs x × (f x ≡ y)
  map_has [] y h = absurd h
  map_has (x ∷ xs) y h =
      ⊎_elim
      (λ (same : f x ≡ y). let r : (z : X) × Has (x ∷ xs) z × (f z ≡ y) = (x, inl refl, same) in r)
      (λ (k : Has (map f xs) y). let l = map_has xs y k in
      let r : (z : X) × Has (x ∷ xs) z × (f z ≡ y) = (l.0, inr l.1, l.2) in r)
      h

-- what is left is left by one of the calls
lefts_has : {E : Type 0} (leaves : E → List E) (xs : List E) (d : E) → Has (lefts leaves xs) d →
    (a : E) × Has xs a × Has (leaves a) d
lefts_has leaves [] d h = absurd h
lefts_has {E} leaves (x ∷ xs) d h =
    ⊎_elim
    (λ (k : Has (leaves x) d). let r : (a : E) × Has (x ∷ xs) a × Has (leaves a) d =
    (x, inl refl, k) in r)
    (λ (k : Has (lefts leaves xs) d). let l = lefts_has leaves xs d k in
    let r : (a : E) × Has (x ∷ xs) a × Has (leaves a) d = (l.0, inr l.1, l.2) in r)
    (append_has (leaves x) (lefts leaves xs) d h)

-- a call is one of the entries
asked_has : (es : List (ℕ × Entry)) (a : ℕ × Event) → Has (journal.calls (all_owned es)) a →
    Has es (a.0, Asked a.1)
asked_has [] a h = absurd h
asked_has ((n, Asked e) ∷ es) a h =
    ⊎_elim (λ (same : (n, e) ≡ a). inl
    (ap (λ (x : ℕ × Event). let r : ℕ × Entry = (x.0, Asked x.1) in r) same))
    (λ k. inr (asked_has es a k)) h
asked_has ((n, Deferred at c) ∷ es) a h = inr (asked_has es a h)

module _ (es : List (ℕ × Entry)) (n at : ℕ) where
  -- What the theory says is left to a commit is going.
  going : (c : Call) → Has (lefts left (runs.own owner n (journal.calls (all_owned es))))
      (n, record { at = at; call = c; reply = Reply.Done }) → IsGoing es n at c
  going c h =
      let one = lefts_has left (runs.own owner n (journal.calls (all_owned es))) _ h in
      let mine = filter_has (λ a. owner a == n) (journal.calls (all_owned es)) one.0 one.1 in
      let leaves = map_has (later_of one.0) (left_by one.0.1.call one.0.1.reply) _ one.2 in
      let there = has_map (λ (e : ℕ × Entry). e.1) (filter (λ e. e.0 == n) es) _
      (has_filter (λ (e : ℕ × Entry). e.0 == n) es (one.0.0, Asked one.0.1)
      (asked_has es one.0 mine.0) mine.1) in (
        one.0.1,
        has_contains (own n es) (Asked one.0.1) there,
        ap (λ (x : ℕ × Event). x.1.at) leaves.2,
        subst (Contains (left_by one.0.1.call one.0.1.reply))
            (ap (λ (x : ℕ × Event). x.1.call) leaves.2)
            (has_contains (left_by one.0.1.call one.0.1.reply) leaves.0 leaves.1),
      )

-- Where nothing is left twice, the theory's calls leave nothing twice.
pub left_once : (es : List (ℕ × Entry)) (n : ℕ) (e : Event) → (GoesTwice es n e → ⊥) →
    AllByRecursion (Lacks (lefts left (runs.own owner n (journal.calls (all_owned es)))))
    (left (n, e))
left_once es n e once =
    each_map (later_of (n, e)) _ (left_by e.call e.reply)
    (every _ (left_by e.call e.reply)
    (λ c h k. once (c, has_contains (left_by e.call e.reply) c h, going es n e.at c k)))
