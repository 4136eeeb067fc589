-- A journal as contracts see it, from its parts.
use Rattle.std.specs.Prelude.{ℕ}
use Rattle.records.specs.Waits.{Waiting, waiting, freezes}
use Rattle.images.specs.Gatherings.{GatheringState}
use Rattle.steps.specs.Wholes.{TransactionsState}
use Rattle.txn.specs.Shelved.{JournalState}

-- a journal
abbrev pub journal_of : {N : Type 0} → N → TransactionsState → Waiting → (places next : ℕ) →
    GatheringState → JournalState N
journal_of names transactions w places next gathering = record {
  names = names;
  transactions = transactions;
  pending = waiting w;
  freezes = freezes w;
  end = w.handed.end;
  place = w.handed.place;
  places = places;
  next = next;
  gathering = gathering;
}
