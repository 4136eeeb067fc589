-- A hold is put into one of the segments, or into a part of one.
use Rattle.std.proofs.Common.{ℕ, zero, suc, ◌<◌, List, [], ◌∷◌, ◌++◌, length}
use Rattle.std.proofs.Common.{get_or, set, subst, arith, append_assoc}
use Rattle.std.specs.List.{insert}
use Rattle.std.proofs.lemmas.List.{append-nil}
use Rattle.std.proofs.lemmas.List.Concat.{flat_map-append}
use Rattle.abstract_locks.specs.declared.table.Hold.{Hold}
use Rattle.abstract_locks.specs.Holds.{IsAdded}
use Rattle.abstract_locks.specs.Segments.{all_holds}
use Rattle.abstract_locks.proofs.Granting.{added_before, added_behind}

-- a new segment has the hold alone
pub added_last : (xs : List (List Hold)) (new : List Hold) (h : Hold) → IsAdded [] new h →
    IsAdded (all_holds xs) (all_holds (xs ++ new ∷ [])) h
added_last xs new h added =
    rw (flat_map-append (λ s. s) xs (new ∷ []), append-nil new)
    (subst (λ l. IsAdded l (all_holds xs ++ new) h) (append-nil (all_holds xs))
    (added_behind [] new h added (all_holds xs)))

-- one of them is in two parts now, and has the hold
pub added_in_parts : (xs : List (List Hold)) (i : ℕ) (d lower upper : List Hold) (h : Hold) →
    i < length xs → IsAdded (get_or xs i d) (lower ++ upper) h →
    IsAdded (all_holds xs) (all_holds (insert (set xs i lower) (suc i) upper)) h
added_in_parts [] i d lower upper h lt added = absurd (omega arith)
added_in_parts (x ∷ xs) zero d lower upper h lt added =
    subst (λ l. IsAdded (x ++ all_holds xs) l h) (append_assoc lower upper (all_holds xs))
    (added_before x (lower ++ upper) h added (all_holds xs))
added_in_parts (x ∷ xs) (suc i) d lower upper h lt added =
    added_behind (all_holds xs) (all_holds (insert (set xs i lower) (suc i) upper)) h
    (added_in_parts xs i d lower upper h (omega arith) added) x
