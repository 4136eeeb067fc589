-- A hold is put to one of several lists.
use Rattle.std.proofs.Common.{ℕ, zero, suc, ◌<◌, inl, inr, List, [], ◌∷◌, ◌++◌}
use Rattle.std.proofs.Common.{length, get_or, set, sym, subst, ⊎_elim, arith}
use Rattle.std.specs.List.{All, Contains, flat_map}
use Rattle.std.proofs.lemmas.List.Elements.{All-contains, All-contains_itself, All-weaker}
use Rattle.std.proofs.lemmas.List.Elements.{Contains-append_cases}
use Rattle.std.proofs.lemmas.List.Elements.{Contains-append_left, Contains-append_right}
use Rattle.abstract_locks.specs.declared.table.Hold.{Hold}
use Rattle.abstract_locks.specs.Holds.{IsAdded}

module _ (old new : List Hold) (h : Hold) (added : IsAdded old new h) where
  pub added_before : (rest : List Hold) → IsAdded (old ++ rest) (new ++ rest) h
  added_before rest x = (
    λ inside. ⊎_elim
        (λ a. ⊎_elim (λ was. inl (Contains-append_left old rest x was)) (λ same. inr same)
        ((added x).0 a))
        (λ b. inl (Contains-append_right old rest x b)) (Contains-append_cases new rest x inside),
    λ either. ⊎_elim
        (λ was. ⊎_elim (λ a. Contains-append_left new rest x ((added x).1 (inl a)))
        (λ b. Contains-append_right new rest x b) (Contains-append_cases old rest x was))
        (λ same. Contains-append_left new rest x ((added x).1 (inr same))) either,
  )

  pub added_behind : (front : List Hold) → IsAdded (front ++ old) (front ++ new) h
  added_behind front x = (
    λ inside. ⊎_elim (λ a. inl (Contains-append_left front old x a))
        (λ b. ⊎_elim (λ was. inl (Contains-append_right front old x was)) (λ same. inr same)
        ((added x).0 b)) (Contains-append_cases front new x inside),
    λ either. ⊎_elim
        (λ was. ⊎_elim (λ a. Contains-append_left front new x a)
        (λ b. Contains-append_right front new x ((added x).1 (inl b)))
        (Contains-append_cases front old x was))
        (λ same. Contains-append_right front new x ((added x).1 (inr same))) either,
  )

  -- what the others and the new one have all have
  pub all_still : (P : Hold → Type 0) → P h → All P old → All P new
  all_still P one all = All-weaker (Contains new) P
      (λ g inside. ⊎_elim (λ was. All-contains P old g all was)
      (λ same. subst P (sym same) one) ((added g).0 inside))
      new (All-contains_itself new)

-- one of them gets it
pub added_at : {X : Type 0} (holds : X → List Hold) (xs : List X) (i : ℕ) (d new : X) (h : Hold) →
    i < length xs → IsAdded (holds (get_or xs i d)) (holds new) h →
    IsAdded (flat_map holds xs) (flat_map holds (set xs i new)) h
added_at holds [] i d new h lt added = absurd (omega arith)
added_at holds (x ∷ xs) zero d new h lt added =
    added_before (holds x) (holds new) h added (flat_map holds xs)
added_at holds (x ∷ xs) (suc i) d new h lt added =
    added_behind (flat_map holds xs) (flat_map holds (set xs i new)) h
    (added_at holds xs i d new h (omega arith) added) (holds x)
