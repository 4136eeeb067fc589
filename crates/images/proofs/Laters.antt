-- What a commit runs is noted entry by entry.
use Rattle.std.proofs.Common.{None, ◌≡◌, ℕ, ◌+◌, ◌<◌, ◌≤◌, Option, List, [], ◌∷◌, ◌++◌, length, map}
use Rattle.std.proofs.Common.{get_or, drop, sym, ◌∙◌, ap, append_assoc}
use Rattle.std.specs.Option.{option_to_list}
use Rattle.std.proofs.lemmas.List.{append-nil, map-append, drop_all}
use Rattle.calls.specs.Transactions.{Event, laters_of}
use Rattle.undo_log.specs.declared.logged.Stamped.{Stamped}
use Rattle.undo_log.specs.Entries.{stamped_entry}
use Rattle.steps.proofs.DeferredRuns.{deferred, next}
use Rattle.images.specs.declared.effect.Effect.{Effect}

module _ (f : Event → Effect) (ss : List Stamped) where
  pub laters_more : (i : ℕ) (s : Stamped) → i < length ss → s ≡ get_or ss i s →
      (items now : List Effect) (o : Option Effect) →
      option_to_list o ≡ map f (laters_of (stamped_entry s ∷ [])) →
      now ≡ items ++ option_to_list o →
      items ++ map f (deferred None (drop i ss)) ≡ map f (deferred None ss) →
      now ++ map f (deferred None (drop (i + 1) ss)) ≡ map f (deferred None ss)
  laters_more i s below is items now o told more so_far =
      let ones = laters_of (stamped_entry s ∷ []) in
      let left = deferred None (drop (i + 1) ss) in
      let all : map f (deferred None (drop i ss)) ≡ map f ones ++ map f left =
      ap (map f) (next None ss i s below is) ∙ map-append f ones left in
      ap (λ l. l ++ map f left) more ∙ append_assoc items (option_to_list o) (map f left) ∙
      ap (λ l. items ++ (l ++ map f left)) told ∙ ap (λ l. items ++ l) (sym all) ∙ so_far

  pub laters_all : (i : ℕ) → length ss ≤ i → (items : List Effect) →
      items ++ map f (deferred None (drop i ss)) ≡ map f (deferred None ss) →
      items ≡ map f (deferred None ss)
  laters_all i past items so_far = sym (append-nil items) ∙
      ap (λ l. items ++ map f (deferred None l)) (sym (drop_all i ss past)) ∙ so_far
