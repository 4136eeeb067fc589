-- A journal from its parts, before and after a step.
use Rattle.std.proofs.Common.{◌≡◌, ℕ, ◌+◌, ◌<◌, List, [], ◌∷◌, ◌++◌, length, ◌∙◌, ap}
use Rattle.records.specs.declared.record.Record.{Record}
use Rattle.records.specs.Acts as acts
use Rattle.records.specs.Waits.{Waiting, waiting, freezes}
use Rattle.records.specs.declared.draft.Handed.{Handed}
use Rattle.steps.specs.Wholes.{TransactionsState}
use Rattle.images.specs.Gatherings.{GatheringState}
use Rattle.txn.specs.Books.{next_behind}
use Rattle.txn.specs.Shelved.{JournalState, Writes}
use Rattle.txn.specs.Views.{journal_of}

-- the journal with these records waiting, and so many handed over
abbrev waits : {N : Type 0} → N → TransactionsState → List Record → List ℕ → Handed →
    (places next : ℕ) → GatheringState → JournalState N
waits names a pending marks h places next n = record {
  names = names;
  transactions = a;
  pending = pending;
  freezes = marks;
  end = h.end;
  place = h.place;
  places = places;
  next = next;
  gathering = n;
}

module _ {N : Type 0} {names : N} {a : TransactionsState} (w : Waiting) {places next : ℕ} where
  -- A record waits behind the others: room was made first, and it was then written.
  pub written : {m n : GatheringState} {r : Record} {names' : N} {b : TransactionsState}
      (reserved w' : Waiting) {places' next' : ℕ} →
      length (waiting w) < 16384 → waiting reserved ≡ waiting w → freezes reserved ≡ freezes w →
      reserved.handed ≡ w.handed →
      waiting w' ≡ waiting reserved ++ r ∷ [] → freezes w' ≡ freezes reserved →
      w'.handed ≡ reserved.handed → places' ≡ places + acts.places (r ∷ []) →
      next' ≡ next_behind next r →
      Writes (journal_of names a w places next m) r (journal_of names' b w' places' next' n)
  written {m} {n} {r} {names'} {b} reserved w' {places'} {next'} room waits_is marks handed put
      marked
      also counted above =
      let records : waiting w' ≡ waiting w ++ r ∷ [] = put ∙ ap (λ l. l ++ r ∷ []) waits_is in
      record {
        room = room;
        is =
            ap (λ v. waits names' b v (freezes w') w'.handed places' next' n) records
            ∙ ap (λ v. waits names' b (waiting w ++ r ∷ []) v w'.handed places' next' n)
            (marked ∙ marks)
            ∙ ap (λ v. waits names' b (waiting w ++ r ∷ []) (freezes w) v places' next' n)
            (also ∙ handed)
            ∙ ap (λ v. waits names' b (waiting w ++ r ∷ []) (freezes w) w.handed v next' n) counted
            ∙ ap (λ v. waits names' b (waiting w ++ r ∷ []) (freezes w) w.handed
            (places + acts.places (r ∷ [])) v n) above;
      }

  -- Where only room was made, the journal is seen as it was.
  pub seen : {m n : GatheringState} {b : TransactionsState} {j : JournalState N} (w' : Waiting) →
      journal_of names a w places next m ≡ j → b ≡ a → n ≡ m → waiting w' ≡ waiting w →
      freezes w' ≡ freezes w → w'.handed ≡ w.handed → journal_of names b w' places next n ≡ j
  seen {m} {n} {b} w' is same noted waits_is marks handed =
      ap (λ v. waits names v (waiting w') (freezes w') w'.handed places next n) same ∙
      ap (λ v. waits names a (waiting w') (freezes w') w'.handed places next v) noted ∙
      ap (λ v. waits names a v (freezes w') w'.handed places next m) waits_is ∙
      ap (λ v. waits names a (waiting w) v w'.handed places next m) marks ∙
      ap (λ v. waits names a (waiting w) (freezes w) v places next m) handed ∙ is

  -- Where the last block was sealed, nothing else changes but what is noted.
  pub sealed_seen : (m : GatheringState) {n k : GatheringState} (w' : Waiting) →
      waiting w' ≡ waiting w →
      w'.handed ≡ w.handed → n ≡ k →
      journal_of names a w' places next n ≡
      record (journal_of names a w places next m) { freezes = freezes w'; gathering = k }
  sealed_seen m {n} {k} w' waits_is handed noted =
      ap (λ v. waits names a v (freezes w') w'.handed places next n) waits_is ∙
      ap (λ v. waits names a (waiting w) (freezes w') v places next n) handed ∙
      ap (λ v. waits names a (waiting w) (freezes w') w.handed places next v) noted
