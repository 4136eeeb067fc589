-- A book in parts: what its journal keeps, and four shelves. A step on one shelf says what it is of
-- the book whatever the other shelves are.
use Rattle.std.specs.Prelude.{◌≡◌, ◌≢◌, ℕ, ◌+◌, ◌<◌, List, [], ◌∷◌, ◌++◌, length, OnOk, Result}
use Rattle.std.specs.Prelude.{Ok, Err}
use Rattle.std.specs.List.{AllByRecursion}
use Rattle.calls.specs.declared.refusal.Refusal.{Refusal}
use Rattle.calls.specs.Contents.{Collection}
use Rattle.calls.specs.Transactions.{Event, Entry, Whole, own}
use Rattle.abstract_locks.specs.Holds.{IsGivenUp}
use Rattle.undo_log.specs.Entries.{HasNewestCall}
use Rattle.calls.specs.Limits.{max_pending}
use Rattle.calls.specs.declared.kind.Kind.{Kind}
use Rattle.calls.specs.declared.format.Format.{Format}
use Rattle.boosted.specs.Meaning.{Meaning}
use Rattle.catalog.specs.declared.four.Four.{Four}
use Rattle.catalog.specs.Fours.{Which, which_of, put}
use Rattle.catalog.specs.Making.{Making}
use Rattle.steps.specs.Shelves.{ShelfState}
use Rattle.records.specs.declared.record.Record.{Record}
use Rattle.records.specs.Acts.{places}
use Rattle.records.specs.Short.{AreShort}
use Rattle.steps.specs.Machine.{IsSettled}
use Rattle.steps.specs.Sound.{IsSound}
use Rattle.steps.specs.Transactions.{RunsWhole}
use Rattle.undo_log.specs.Entries.{place_of}
use Rattle.steps.specs.Wholes.{TransactionsState, whole_state, IsJoined}
use Rattle.steps.specs.TransactionTables.{alone, rested}
use Rattle.images.specs.Gatherings.{GatheringState, none_begun}
use Rattle.txn.specs.declared.actions.Action.{Action}
use Rattle.txn.specs.Rows.{Standing}
use Rattle.txn.specs.Books.{BookState, next_behind, IsKept, Takes, GoesOn, Notes}

-- What a book keeps beside its shelves.
pub record JournalState (N : Type 0) : Type 0 where
  -- the names of the collections, with their kinds
  pub names : N
  pub transactions : TransactionsState
  -- all else as a book has it
  pub pending : List Record
  pub freezes : List ℕ
  pub end : ℕ
  pub place : ℕ
  pub places : ℕ
  pub next : ℕ
  pub gathering : GatheringState

-- The book that a journal and four shelves are. whole: the collections that names and four shelves
-- are.
abbrev pub book_state : {S T N : Type 0} → (N → Four T → S) → JournalState N →
    Four (ShelfState T) → BookState S
book_state whole j f = record {
  state = whole_state whole j.names j.transactions f;
  pending = j.pending;
  freezes = j.freezes;
  end = j.end;
  place = j.place;
  places = j.places;
  next = j.next;
  gathering = j.gathering;
}

-- the journal of a book that was opened
abbrev pub opened_journal : {N : Type 0} → Format → N → (next wear : ℕ) → JournalState N
opened_journal format names next wear = record {
  names = names;
  transactions = rested format wear;
  pending = [];
  freezes = [];
  end = 0;
  place = 0;
  places = 0;
  next = next;
  gathering = none_begun;
}

-- what stands of a journal, without the collections and the needs on them
abbrev pub standing_of : {N : Type 0} → JournalState N → Standing (Unit {0})
standing_of j = record {
  state = alone j.transactions;
  pending = length j.pending;
  places = j.places;
}

-- how many records came before what the journal notes next
abbrev pub journal_lsn : {N : Type 0} → JournalState N → ℕ
journal_lsn j = j.end + length j.pending

-- The step's record waits behind the others. What it does to the transactions and the names, and
-- what is noted of it, stands apart.
pub record Writes {N : Type 0} (j : JournalState N) (r : Record) (k : JournalState N) : Type 0 where
  pub room : length j.pending < max_pending
  pub is : k ≡ record j {
    names =
        k.names;
    transactions = k.transactions;
    pending = j.pending ++ r ∷ [];
    places = j.places + places (r ∷ []);
    next = next_behind j.next r;
    gathering = k.gathering;
  }

-- Nothing but the transactions changes.
abbrev pub Charges : {N : Type 0} → JournalState N → JournalState N → Type 0
Charges j k = k ≡ record j { transactions = k.transactions }

-- The newest call of the number is there, on this collection.
abbrev pub HasNewestAt : ℕ → List (ℕ × Entry) → ℕ → Type 0
HasNewestAt n es at = (x : Event) × HasNewestCall n es x × (x.at ≡ at)

-- Nothing that the transaction asked for is of a collection on this shelf.
abbrev pub IsUntouched : Which → ℕ → List (ℕ × Entry) → Type 0
IsUntouched w n es = AllByRecursion (λ e. which_of (place_of e) ≢ w) (own n es)

-- There is nothing to settle on the shelf for the transaction: no call, and no need of its own.
abbrev pub IsIdle : {T : Type 0} → ShelfState T → ℕ → List Event → Type 0
IsIdle s n es = (es ≡ []) × IsGivenUp s.holds s.holds n

-- ---- what a step is of the book

-- What is settled stays.
abbrev pub Settles : {S : Type 0} → Meaning S ℕ → BookState S → BookState S → Type 0
Settles {S} meaning b c = (s : S) → IsSettled meaning b.state s → IsSettled meaning c.state s

-- What is settled is led on by the whole transaction.
abbrev pub SettlesWhole : {S : Type 0} → Meaning S ℕ → Making S → ℕ → BookState S → BookState S →
    Type 0
SettlesWhole {S} meaning making n b c = (s : S) → IsSettled meaning b.state s →
    (t : S) × RunsWhole meaning making s (Whole (own n b.state.entries)) t ×
    IsSettled meaning c.state t

-- What is settled has one collection more.
abbrev pub SettlesMade : {S : Type 0} → Meaning S ℕ → Making S → List ℕ → Kind → BookState S →
    BookState S → Type 0
SettlesMade {S} meaning making name kind b c = (s : S) → IsSettled meaning b.state s →
    (t : S) × making.makes s name kind t × IsSettled meaning c.state t

-- what the entering of a number was answered, without the slot that it gives
abbrev pub entered : Result ℕ Refusal → Result (Unit {0}) Refusal
entered (Ok slot) = Ok tt
entered (Err e) = Err e

module _ {S : Type 0} (meaning : Meaning S ℕ) (making : Making S)
    (collections : S → List Collection) where
  -- A step got its result, settled what it says, and noted what it ran; what is gathered goes
  -- along.
  pub record IsServed {R : Type 0} (action : Result R Refusal → Action) (result : Result R Refusal)
      (settled : Type 0) (b c : BookState S) : Type 0 where
    pub answer : Takes meaning making b (action result) c
    pub settles : settled
    pub goes : OnOk result (GoesOn meaning making collections b c)
    pub notes : OnOk result (Notes meaning b (action result) c)

  -- A step of a transaction that settles nothing got its result.
  abbrev pub Serves : {R : Type 0} → (Result R Refusal → Action) → Result R Refusal →
      BookState S → BookState S → Type 0
  Serves action result b c = IsServed action result (Settles meaning b c) b c

-- S: whole contents. T: contents of a shelf. N: names with kinds.
-- whole: the collections that names and four shelves are. fits: these belong together.
module _ {S T N : Type 0} (meaning : Meaning S ℕ) (making : Making S)
    (collections : S → List Collection) (whole : N → Four T → S) (fits : N → Four T → Type 0) where
  -- The journal and the shelves are a book.
  pub record IsBook (j : JournalState N) (f : Four (ShelfState T)) : Type 0 where
    pub joined : IsJoined meaning making collections whole fits j.names j.transactions f
    pub kept : IsKept meaning making (λ form s. AreShort form (collections s))
        (IsSound meaning making) (book_state whole j f)

  -- The journal is of some book, whatever its shelves are.
  abbrev pub IsJournal : JournalState N → Type 0
  IsJournal j = (f : Four (ShelfState T)) × IsBook j f

  -- The journal and the shelf are of some book, whatever its other shelves are.
  abbrev pub IsOfBook : Which → JournalState N → ShelfState T → Type 0
  IsOfBook w j s = (rest : Four (ShelfState T)) × IsBook j (put rest w s)

  -- A step on one shelf leads from a book to a book, and is of it as told, whatever the other
  -- shelves are.
  pub record LeadsOn (Told : BookState S → BookState S → Type 0) (w : Which) (j : JournalState N)
      (s : ShelfState T) (k : JournalState N) (t : ShelfState T) : Type 0 where
    pub told : (rest : Four (ShelfState T)) → IsBook j (put rest w s) →
        Told (book_state whole j (put rest w s)) (book_state whole k (put rest w t))
    pub kept : (rest : Four (ShelfState T)) → IsBook j (put rest w s) → IsBook k (put rest w t)

  -- A step of the journal alone does, whatever the shelves are.
  pub record LeadsBeside (Told : BookState S → BookState S → Type 0) (j k : JournalState N) :
      Type 0 where
    pub told : (f : Four (ShelfState T)) → IsBook j f →
        Told (book_state whole j f) (book_state whole k f)
    pub kept : (f : Four (ShelfState T)) → IsBook j f → IsBook k f
