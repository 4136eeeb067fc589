-- A book: the state that its records lead to, and the records that wait for a block.
use Rattle.calls.specs.declared.format.Format.{Format}
use Rattle.std.specs.Prelude.{◌≡◌, ◌⊎◌, ℕ, ◌+◌, ◌*◌, ◌<◌, ◌≤◌, max, Bool, true, false, cond, List}
use Rattle.std.specs.Prelude.{[]}
use Rattle.std.specs.Prelude.{◌∷◌, ◌++◌, length, map, Contains, None, Result, Ok}
use Rattle.std.specs.FinMap as maps
use Rattle.std.specs.List.{AllByRecursion}
use Rattle.calls.specs.declared.kind.Kind.{Kind}
use Rattle.calls.specs.declared.refusal.Refusal.{Refusal}
use Rattle.calls.specs.Contents.{Collection}
use Rattle.calls.specs.Limits.{max_pending, number_end}
use Rattle.calls.specs.Reads.{reads}
use Rattle.calls.specs.Transactions.{Event, own, laters_of}
use Rattle.undo_log.specs.Entries.{HasNewestCall}
use Rattle.undo_log.specs.Logs.{Lives}
use Rattle.boosted.specs.Meaning.{Meaning}
use Rattle.catalog.specs.Making.{Making}
use Rattle.records.specs.declared.record.Record.{Record}
use Rattle.records.specs.Acts.{places}
use Rattle.records.specs.Records.{IsRecord}
use Rattle.steps.specs.Machine.{State}
use Rattle.steps.specs.Machines.{resting, IsUpheld}
use Rattle.records.specs.Cuts.{CutsOff}
use Rattle.records.specs.declared.block.Block.{Block}
use Rattle.images.specs.declared.effect.Effect.{Effect}
use Rattle.images.specs.Gatherings.{GatheringState, none_begun, noted, AreRun, KeepsGoing}
use Rattle.images.specs.Gatherings.{effect_at, IsInverse}
use Rattle.calls.specs.declared.when.When.{When}
use Rattle.txn.specs.declared.actions.Action.{Action}
use Rattle.txn.specs.declared.actions.Target.{Target}
use Rattle.txn.specs.Rows.{Standing, Answers}

pub record BookState (S : Type 0) : Type 0 where
  pub state : State S
  -- the records of the steps that were not handed over yet, in order
  pub pending : List Record
  -- the LSNs, counted as end is, that no block may cross: a freeze stood there, and records from
  -- before it still wait
  pub freezes : List ℕ
  -- how many records were handed over, and how many of these commit something
  pub end : ℕ
  pub place : ℕ
  -- the commits and makes since the book was opened
  pub places : ℕ
  -- above every number that was entered
  pub next : ℕ
  -- what is kept while it is gathered
  pub gathering : GatheringState

-- the state of a book of named collections
abbrev pub NamedBook : Type 0
NamedBook = BookState (List Collection)

-- a book that was opened
abbrev pub opened : {S : Type 0} → Format → S → (next wear : ℕ) → BookState S
opened format now next wear = record {
  state = resting format now wear;
  pending = [];
  freezes = [];
  end = 0;
  place = 0;
  places = 0;
  next = next;
  gathering = none_begun;
}

-- what its histories speak of
abbrev pub standing : {S : Type 0} → BookState S → Standing S
standing b = record { state = b.state; pending = length b.pending; places = b.places }

-- above the number that a record makes live
abbrev pub next_behind : ℕ → Record → ℕ
next_behind next (Record.Begin n) = max next (n + 1)
next_behind next r = next

-- one collection is made
abbrev pub MakesOne : {S : Type 0} → Making S → S → S → Type 0
MakesOne making s t = (name : List ℕ) × (kind : Kind) × making.makes s name kind t

-- how many records came before what the book does next
abbrev pub lsn : {S : Type 0} → BookState S → ℕ
lsn b = b.end + length b.pending

-- The state is c's now, and the step's record waits behind the others. What is noted of the step
-- while the book is gathered stands apart.
pub record Appends {S : Type 0} (b : BookState S) (r : Record) (c : BookState S) : Type 0 where
  pub room : length b.pending < max_pending
  pub is : c ≡ record b {
    state =
        c.state;
    pending = b.pending ++ r ∷ [];
    places = b.places + places (r ∷ []);
    next = next_behind b.next r;
    gathering = c.gathering;
  }

-- The state is c's now, and nothing else changed. What is noted stands apart.
abbrev pub Moves : {S : Type 0} → BookState S → BookState S → Type 0
Moves b c = c ≡ record b { state = c.state; gathering = c.gathering }

-- The step, with its answer, leads from one book to another.
abbrev pub Takes : {S : Type 0} → Meaning S ℕ → Making S → BookState S → Action → BookState S →
    Type 0
Takes meaning making b action c = Answers meaning making standing Appends Moves b action c

-- ---- gathering

-- What the step ran on the collections is noted. Where it ran nothing there, and may have made one,
-- nothing is noted.
abbrev pub NotesRuns : {S : Type 0} → Meaning S ℕ → Making S → BookState S → BookState S → Type 0
NotesRuns meaning making b c =
    ((es : List Effect) × AreRun meaning (lsn c) es b.state.now c.state.now ×
    (c.gathering ≡ noted b.gathering es))
    ⊎ ((c.gathering ≡ b.gathering) ×
    ((c.state.now ≡ b.state.now) ⊎ MakesOne making b.state.now c.state.now))

-- Which calls an accepted step notes while the book is gathered: a call itself, unless it only
-- reads; of an undoing the one that takes the newest call back, if that did not only read and one
-- is needed; what a commit ran, in its order; of all others none.
abbrev pub Notes : {S : Type 0} → Meaning S ℕ → BookState S → Action → BookState S → Type 0
Notes meaning b (Action.Ask n (Target.Number at) call When.Now (Ok reply)) c =
    c.gathering ≡ cond (reads call reply) b.gathering (noted b.gathering
    (effect_at (lsn b + 1) (record { at = at; call = call; reply = reply }) ∷ []))
Notes meaning b (Action.Commit n (Ok place)) c =
    c.gathering ≡ noted b.gathering (map (effect_at (lsn b + 1)) (laters_of
    (own n b.state.entries)))
Notes meaning b (Action.Back n (Ok true)) c = (x : Event) × HasNewestCall n b.state.entries x ×
    (((reads x.call x.reply ≡ true) × (c.gathering ≡ b.gathering)) ⊎
    ((reads x.call x.reply ≡ false) × ((es : List Effect) × IsInverse x es ×
    AreRun meaning (lsn b + 1) es b.state.now c.state.now ×
    (c.gathering ≡ noted b.gathering es))))
Notes meaning b action c = c.gathering ≡ b.gathering

-- What the step ran is noted, and what is gathered of the book goes along.
pub record GoesOn {S : Type 0} (meaning : Meaning S ℕ) (making : Making S)
    (collections : S → List Collection) (b c : BookState S) : Type 0 where
  pub notes : NotesRuns meaning making b c
  pub keeps : KeepsGoing collections b.gathering b.state.now (lsn b) c.gathering c.state.now
      (lsn c)

-- ---- handing records over

-- What a cut answers of the records of a book that wait. The state stays.
abbrev pub CutAnswers : {S : Type 0} → BookState S → (List Block → Type 0) → Type 0 →
    Result Bool Refusal → BookState S → Type 0
CutAnswers b sends full result c =
    CutsOff b.pending b.freezes b.end b.place sends full result c.pending c.freezes c.end c.place ×
    (c ≡ record b { pending = c.pending; freezes = c.freezes; end = c.end; place = c.place })

-- ---- what holds of every book

-- short: no value in the collections is too long for the format. sound: what holds of every state
-- that the machine reaches.
module _ {S : Type 0} (meaning : Meaning S ℕ) (making : Making S) (short : Format → S → Type 0)
    (sound : State S → Type 0) where
  pub record IsKept (b : BookState S) : Type 0 where
    pub records : AllByRecursion (IsRecord None) b.pending
    pub few_pending : length b.pending ≤ max_pending
    -- each freeze stands behind a record that waits
    pub frozen : (f : ℕ) → Contains b.freezes f → (b.end < f) × (f ≤ b.end + length b.pending)
    pub upheld : IsUpheld meaning making short sound b.state
    pub below : (n : ℕ) → Lives b.state.live n → n < b.next
    pub next : (1 ≤ b.next) × (b.next ≤ number_end)
    -- a record is a unit of wear, the one Commit or Ended of a Begin, or a Make
    pub lsns : b.end + length b.pending + maps.len b.state.live ≤ 2 * b.state.wear + length
        (making.names b.state.now)
    pub placed : b.place + places b.pending ≡ b.places
    pub counted : b.places ≤ b.end + length b.pending
