-- The machine over records: the state that records lead to. The book runs it forward, and recovery
-- repeats it.
use Rattle.std.specs.Prelude.{◌≡◌, ℕ, ◌+◌, ◌<◌, ◌≤◌, true, false, List, [], ◌∷◌, ◌++◌}
use Rattle.std.specs.Prelude.{length, map}
use Rattle.std.specs.List.{filter}
use Rattle.std.specs.FinMap as maps
use Rattle.calls.specs.declared.kind.Kind.{Kind}
use Rattle.calls.specs.declared.call.Call.{Call}
use Rattle.calls.specs.declared.reply.Reply.{Reply}
use Rattle.calls.specs.declared.format.Format.{Format}
use Rattle.calls.specs.Rules.{need_of, IsUndoneInPlace}
use Rattle.calls.specs.Reads.{reads, is_journalled}
use Rattle.calls.specs.Transactions.{Event, Entry, Asked, Deferred, own, others, calls_of}
use Rattle.calls.specs.Transactions.{laters_of}
use Rattle.undo_log.specs.LeftCalls.{GoesTwice}
use Rattle.calls.specs.Transactions.{Leads}
use Rattle.calls.specs.Limits.{max_live, max_calls, max_wear}
use Rattle.abstract_locks.specs.declared.table.Hold.{Hold}
use Rattle.abstract_locks.specs.Holds.{hold, IsClear, IsAdded, IsGivenUp}
use Rattle.undo_log.specs.Entries.{HasNoCall, IsNewestCall, HasNewestCall}
use Rattle.undo_log.specs.Logs.{Statuses, Lives, Falls, fallen}
use Rattle.boosted.specs.Meaning.{CanAsk, CanDefer, Undoes, Meaning}
use Rattle.steps.specs.Shelves as shelves
use Rattle.catalog.specs.Making.{IsNew, Making}
use Rattle.records.specs.declared.record.Record.{Record}
use Rattle.records.specs.Acts.{event_of}
use Rattle.records.specs.Records.{IsNumber}
use Rattle.records.specs.Short.{IsShortReply}

-- S: contents of the collections.
pub record State (S : Type 0) : Type 0 where
  -- what the collections hold now
  pub now : S
  -- the live transactions, by number: whether each is falling, that is being undone
  pub live : Statuses
  -- what they asked for and did not undo, in the order asked
  pub entries : List (ℕ × Entry)
  -- the needs that they hold
  pub holds : List Hold
  -- how often anything was entered, called, deferred, run in a commit or undone, but for what only
  -- reads and leaves no record
  pub wear : ℕ
  -- the format of the store, which no step changes
  pub format : Format

-- What a journal tells of what was asked for: nothing of calls that only read.
abbrev pub journalled_entries : List (ℕ × Entry) → List (ℕ × Entry)
journalled_entries es = filter (λ e. is_journalled e.1) es

-- the state as its journal tells of it
abbrev pub journalled : {S : Type 0} → State S → State S
journalled s = record s { entries = journalled_entries s.entries }

-- The number is live, and nothing of it was undone.
pub record IsRunning {S : Type 0} (s : State S) (n : ℕ) : Type 0 where
  pub live : Lives s.live n
  pub standing : Falls s.live n → ⊥

-- What the number asked for is done: its entries and needs go, and no other's.
pub record IsLeft {S : Type 0} (s : State S) (n : ℕ) (t : State S) : Type 0 where
  pub holds : IsGivenUp s.holds t.holds n
  pub is : t ≡ record s {
    live = maps.remove s.live n;
    entries = others n s.entries;
    holds = t.holds;
  }

-- A number begins.
pub record CanBegin {S : Type 0} (s : State S) (n : ℕ) : Type 0 where
  pub number : IsNumber n
  pub fresh : Lives s.live n → ⊥
  pub few : maps.len s.live < max_live

pub record BeginRow {S : Type 0} (s : State S) (n : ℕ) (t : State S) : Type 0 where
  pub can : CanBegin s n
  pub room : s.wear + 1 + length s.entries ≤ max_wear
  pub is : t ≡ record s { live = maps.insert s.live n false; wear = s.wear + 1 }

-- A transaction whose calls are all undone ends.
pub record EndedRow {S : Type 0} (s : State S) (n : ℕ) (t : State S) : Type 0 where
  pub live : Lives s.live n
  pub undone : HasNoCall n s.entries
  pub left : IsLeft s n t

-- A transaction of which nothing is left to undo is falling from now on. This leaves no record.
pub record FallRow {S : Type 0} (s : State S) (n : ℕ) (t : State S) : Type 0 where
  pub live : Lives s.live n
  pub undone : HasNoCall n s.entries
  pub is : t ≡ record s { live = fallen s.live n }

-- The newest call of the number is there, and only reads.
abbrev pub HasNewestRead : ℕ → List (ℕ × Entry) → Type 0
HasNewestRead n es = (x : Event) × (rest : List (ℕ × Entry)) × IsNewestCall n es x rest ×
    (reads x.call x.reply ≡ true)

-- The newest call of the number is there, and is not undone in place.
abbrev pub UndoingTakesMemory : ℕ → List (ℕ × Entry) → Type 0
UndoingTakesMemory n es = (x : Event) × HasNewestCall n es x × (IsUndoneInPlace x.call x.reply → ⊥)

-- The newest call of a transaction is undone, which only reads: nothing was changed by it. This
-- leaves no record, and does not wear.
pub record UnreadRow {S : Type 0} (s : State S) (n : ℕ) (t : State S) : Type 0 where
  pub live : Lives s.live n
  pub call : Event
  pub rest : List (ℕ × Entry)
  pub newest : IsNewestCall n s.entries call rest
  pub only_reads : reads call.call call.reply ≡ true
  pub is : t ≡ record s { live = fallen s.live n; entries = rest }

-- A collection is made, under a good name that is free, where there are fewer than 256.
pub record MakeRow {S : Type 0} (making : Making S) (s : State S) (name : List ℕ) (kind : Kind)
    (t : State S) : Type 0 where
  pub new : IsNew (making.names s.now) name
  pub next : S
  pub made : making.makes s.now name kind next
  pub is : t ≡ record s { now = next }

module _ {S : Type 0} (meaning : Meaning S ℕ) where
  -- The call, answered so, leads from one content to another.
  abbrev pub Does : S → Event → S → Type 0
  Does = shelves.Does meaning

  -- The live calls lead from c to what the collections hold now: c is what they would hold without
  -- the live transactions.
  abbrev pub IsSettled : State S → S → Type 0
  IsSettled s c = Leads Does (calls_of (map (λ e. e.1) s.entries)) c s.now

  -- A call of a running transaction that gets this reply now, with no value too long for the
  -- format, leaves nothing that is going already, and needs what no other transaction holds in its
  -- way.
  pub record CanCall (s : State S) (n : ℕ) (e : Event) : Type 0 where
    pub running : IsRunning s n
    pub asked : CanAsk meaning s.format s.now e.at e.call
    pub told : IsShortReply s.format e.reply
    pub few : length (own n s.entries) < max_calls
    pub answered : meaning.answers s.now e.at e.call e.reply
    pub once : GoesTwice s.entries n e → ⊥
    pub clear : IsClear s.holds n e.at (need_of e.call e.reply)

  pub record CallRow (s : State S) (n : ℕ) (e : Event) (t : State S) : Type 0 where
    pub can : CanCall s n e
    pub room : s.wear + 1 + (length s.entries + 1) ≤ max_wear
    pub holds : IsAdded s.holds t.holds (hold n e.at (need_of e.call e.reply))
    pub is : t ≡ record s {
      now = meaning.leaves s.now e.at e.call e.reply;
      entries = s.entries ++ (n, Asked e) ∷ [];
      holds = t.holds;
      wear = s.wear + 1;
    }

  -- A call that only reads is made and noted, with the need that it has. This leaves no record, and
  -- does not wear.
  pub record ReadRow (s : State S) (n : ℕ) (e : Event) (t : State S) : Type 0 where
    pub can : CanCall s n e
    pub only_reads : reads e.call e.reply ≡ true
    pub room : s.wear + 1 + (length s.entries + 1) ≤ max_wear
    pub holds : IsAdded s.holds t.holds (hold n e.at (need_of e.call e.reply))
    pub is : t ≡ record s { entries = s.entries ++ (n, Asked e) ∷ []; holds = t.holds }

  -- A call that a running transaction defers to its commit, under the need that it has with the
  -- reply Done. It would get that reply now.
  pub record CanDeferCall (s : State S) (n at : ℕ) (call : Call) : Type 0 where
    pub running : IsRunning s n
    pub deferred : CanDefer meaning s.now at call
    pub few : length (own n s.entries) < max_calls
    pub ready : meaning.answers s.now at call Reply.Done
    pub clear : IsClear s.holds n at (need_of call Reply.Done)

  pub record LaterRow (s : State S) (n at : ℕ) (call : Call) (t : State S) : Type 0 where
    pub can : CanDeferCall s n at call
    pub room : s.wear + 1 + (length s.entries + 1) ≤ max_wear
    pub holds : IsAdded s.holds t.holds (hold n at (need_of call Reply.Done))
    pub is : t ≡ record s {
      entries =
          s.entries ++ (n, Deferred at call) ∷ [];
      holds = t.holds;
      wear = s.wear + 1;
    }

  -- What a transaction asks for can be taken, and is: a call, or one that is deferred.
  abbrev pub CanAccept : State S → (n : ℕ) → Entry → Type 0
  CanAccept s n (Asked e) = CanCall s n e
  CanAccept s n (Deferred at c) = CanDeferCall s n at c

  abbrev pub AcceptRow : State S → (n : ℕ) → Entry → State S → Type 0
  AcceptRow s n (Asked e) t = CallRow s n e t
  AcceptRow s n (Deferred at c) t = LaterRow s n at c t

  -- A transaction commits: what it deferred runs, in the order asked. All that it asked for stays
  -- done.
  pub record CommitRow (s : State S) (n : ℕ) (t : State S) : Type 0 where
    pub running : IsRunning s n
    pub next : S
    pub runs : Leads Does (laters_of (own n s.entries)) s.now next
    pub left : IsLeft (record s {
      now =
          next;
      wear = s.wear + length (laters_of (own n s.entries));
    }) n t

  -- The newest call of a transaction is undone. The transaction is falling from then on, and holds
  -- its needs still.
  pub record BackRow (s : State S) (n : ℕ) (t : State S) : Type 0 where
    pub live : Lives s.live n
    pub call : Event
    pub rest : List (ℕ × Entry)
    pub newest : IsNewestCall n s.entries call rest
    pub next : S
    pub undoes : Undoes meaning s.now call.at call.call call.reply next
    pub is : t ≡ record s { now = next; live = fallen s.live n; entries = rest; wear = s.wear + 1 }

  -- The newest call of a transaction is undone, under a record: it did not only read.
  pub record WrittenBackRow (s : State S) (n : ℕ) (t : State S) : Type 0 where
    pub back : BackRow s n t
    pub written : reads back.call.call back.call.reply ≡ false

  -- The record leads from one state to another: what it asks, and what it changes.
  module _ (making : Making S) where
    abbrev pub Steps : State S → Record → State S → Type 0
    Steps s (Record.Make kind name) t = MakeRow making s name kind t
    Steps s (Record.Begin n) t = BeginRow s n t
    Steps s (Record.Call c) t = CallRow s c.number (event_of c) t
    Steps s (Record.Later l) t = LaterRow s l.number l.collection l.call t
    Steps s (Record.Commit n) t = CommitRow s n t
    Steps s (Record.Back n) t = BackRow s n t
    Steps s (Record.Ended n) t = EndedRow s n t
    Steps s other t = ⊥
