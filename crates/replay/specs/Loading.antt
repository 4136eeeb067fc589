-- The state that an image tells of, one record after another: its collections, the transactions
-- that were live, and what these had asked for.
use Rattle.std.specs.Prelude.{◌≡◌, ℕ, ◌+◌, ◌<◌, ◌≤◌, Bool, true, false, Result, Ok, Err, List}
use Rattle.std.specs.Prelude.{⊤, [], ◌∷◌, ◌++◌, length, map}
use Rattle.std.specs.List.{AllByRecursion}
use Rattle.std.specs.FinMap as maps
use Rattle.calls.specs.declared.kind.Kind.{Kind}
use Rattle.calls.specs.declared.item.Item.{Item}
use Rattle.calls.specs.declared.call.Call.{Call}
use Rattle.calls.specs.declared.reply.Reply.{Reply}
use Rattle.calls.specs.Contents.{Collection}
use Rattle.calls.specs.declared.refusal.Refusal.{Refusal}
use Rattle.calls.specs.Rules.{Askable, Pairs, need_of}
use Rattle.calls.specs.Transactions.{Event, Entry, Asked, Deferred, Leads, calls_of, own}
use Rattle.calls.specs.Limits.{max_live, max_calls, max_wear}
use Rattle.abstract_locks.specs.Holds.{hold, IsClear, IsAdded}
use Rattle.undo_log.specs.declared.logged.Owned.{Owned}
use Rattle.undo_log.specs.Entries.{owned_entry}
use Rattle.undo_log.specs.Logs.{Statuses, Lives}
use Rattle.boosted.specs.Meaning.{CanAsk, CanDefer, Meaning}
use Rattle.catalog.specs.Making.{IsNew, Making}
use Rattle.catalog.specs.Holdings.{Loads}
use Rattle.records.specs.declared.record.Record.{Record}
use Rattle.records.specs.Acts.{event_of}
use Rattle.records.specs.Records.{IsNumber}
use Rattle.records.specs.Short.{IsShortReply}
use Rattle.steps.specs.Machine.{State, Does}
use Rattle.undo_log.specs.LeftCalls.{GoesTwice}

-- A collection of the name and the kind, which has these items, comes to the end, where there are
-- fewer than 256; the wear can reach its content.
pub record LoadRow {S : Type 0} (collections : S → List Collection) (meaning : Meaning S ℕ)
    (making : Making S) (s : State S) (name : List ℕ) (kind : Kind) (items : List Item)
    (t : State S) : Type 0 where
  pub new : IsNew (making.names s.now) name
  pub next : S
  pub loads : Loads (collections s.now) name kind items (collections next)
  pub reached : meaning.within next s.wear
  pub is : t ≡ record s { now = next }

-- A transaction is live: its number is above those before it.
pub record StandRow {S : Type 0} (s : State S) (n : ℕ) (t : State S) : Type 0 where
  pub number : IsNumber n
  pub above : (m : ℕ) → Lives s.live m → m < n
  pub few : maps.len s.live < max_live
  pub is : t ≡ record s { live = maps.insert s.live n false }

-- The wear has room for the undoing of one entry more.
abbrev pub HasRoomToHold : {S : Type 0} → State S → Type 0
HasRoomToHold s = s.wear + (length s.entries + 1) ≤ max_wear

module _ {S : Type 0} (meaning : Meaning S ℕ) where
  -- A call of a live transaction, which the collections show as done: its need is held beside those
  -- of the others.
  pub record HeldCallRow (s : State S) (n : ℕ) (e : Event) (t : State S) : Type 0 where
    pub live : Lives s.live n
    pub asked : CanAsk meaning s.format s.now e.at e.call
    pub told : IsShortReply s.format e.reply
    pub few : length (own n s.entries) < max_calls
    pub once : GoesTwice s.entries n e → ⊥
    pub clear : IsClear s.holds n e.at (need_of e.call e.reply)
    pub room : HasRoomToHold s
    pub holds : IsAdded s.holds t.holds (hold n e.at (need_of e.call e.reply))
    pub is : t ≡ record s { entries = s.entries ++ (n, Asked e) ∷ []; holds = t.holds }

  -- A call that a live transaction deferred to its commit. It would get the reply Done now.
  pub record HeldLaterRow (s : State S) (n at : ℕ) (call : Call) (t : State S) : Type 0 where
    pub live : Lives s.live n
    pub deferred : CanDefer meaning s.now at call
    pub few : length (own n s.entries) < max_calls
    pub ready : meaning.answers s.now at call Reply.Done
    pub clear : IsClear s.holds n at (need_of call Reply.Done)
    pub room : HasRoomToHold s
    pub holds : IsAdded s.holds t.holds (hold n at (need_of call Reply.Done))
    pub is : t ≡ record s { entries = s.entries ++ (n, Deferred at call) ∷ []; holds = t.holds }

  -- The record of an image leads from one state to another: what it asks, and what it changes.
  abbrev pub LiveSteps : State S → Record → State S → Type 0
  LiveSteps s (Record.Begin n) t = StandRow s n t
  LiveSteps s (Record.LiveCall c) t = HeldCallRow s c.number (event_of c) t
  LiveSteps s (Record.LiveLater l) t = HeldLaterRow s l.number l.collection l.call t
  LiveSteps s other t = ⊥

  -- A live transaction can have made the call, which the collections show as done.
  pub record CanHoldCall (s : State S) (n : ℕ) (e : Event) : Type 0 where
    pub live : Lives s.live n
    pub asked : CanAsk meaning s.format s.now e.at e.call
    pub told : IsShortReply s.format e.reply
    pub few : length (own n s.entries) < max_calls
    pub once : GoesTwice s.entries n e → ⊥
    pub clear : IsClear s.holds n e.at (need_of e.call e.reply)
    pub room : HasRoomToHold s

  -- A live transaction can have put the call off.
  pub record CanHoldLater (s : State S) (n at : ℕ) (call : Call) : Type 0 where
    pub live : Lives s.live n
    pub deferred : CanDefer meaning s.now at call
    pub few : length (own n s.entries) < max_calls
    pub ready : meaning.answers s.now at call Reply.Done
    pub clear : IsClear s.holds n at (need_of call Reply.Done)
    pub room : HasRoomToHold s

  -- What a live transaction asked for can be so, and is held: a call, or one that was deferred.
  abbrev pub CanHold : State S → (n : ℕ) → Entry → Type 0
  CanHold s n (Asked e) = CanHoldCall s n e
  CanHold s n (Deferred at c) = CanHoldLater s n at c

  abbrev pub HeldRow : State S → (n : ℕ) → Entry → State S → Type 0
  HeldRow s n (Asked e) t = HeldCallRow s n e t
  HeldRow s n (Deferred at c) t = HeldLaterRow s n at c t

-- A call has a reply that it can have.
abbrev pub IsPaired : Entry → Type 0
IsPaired (Asked e) = Pairs e.call e.reply
IsPaired (Deferred at c) = ⊤

-- The number is the greatest that is live, and 0 where none is.
pub record IsLast (live : Statuses) (last : ℕ) : Type 0 where
  pub upto : (m : ℕ) → Lives live m → m ≤ last
  pub there : 0 < last → Lives live last

-- What reading a collection answers: it was read; or none can be read so from there, and nothing
-- changed; or there was no memory, and nothing changed.
abbrev pub LoadAnswers : {S : Type 0} → (loads : State S → Type 0) → State S → Result Bool Refusal →
    State S → Type 0
LoadAnswers loads s (Ok true) t = loads t
LoadAnswers {S} loads s (Ok false) t = (t ≡ s) × ((v : State S) → loads v → ⊥)
LoadAnswers loads s (Err Refusal.NoMemory) t = t ≡ s
LoadAnswers loads s (Err e) t = ⊥

-- ---- whether the live calls were done

-- The calls among what was asked for, in their order.
abbrev pub calls_in : List Owned → List Event
calls_in os = calls_of (map (λ e. e.1) (map owned_entry os))

-- A client can ask for the calls, and the wear has room for taking them back.
pub record HasRoomBack {S : Type 0} (meaning : Meaning S ℕ) (es : List Event) (s : S) : Type 0 where
  pub asked : AllByRecursion (λ e. Askable e.call) es
  pub wear : ℕ
  pub reached : meaning.within s wear
  pub room : wear + length es ≤ max_wear

module _ {S : Type 0} (meaning : Meaning S ℕ) where
  -- The calls lead from the content to one from which there is room for taking them back.
  pub record HasLed (es : List Event) (s : S) : Type 0 where
    pub next : S
    pub runs : Leads (Does meaning) es s next
    pub room : HasRoomBack meaning es next

  -- What is told once the calls were to be taken back from s: they led there from t; or they lead
  -- there from nowhere.
  abbrev pub TakenBack : List Event → Bool → (s t : S) → Type 0
  TakenBack es true s t = Leads (Does meaning) es t s
  TakenBack es false s t = (u : S) → Leads (Does meaning) es u s → ⊥

  -- What is told once they were to be taken back and made again: the content is s as before, and
  -- they led there; or they lead there from nowhere.
  abbrev pub DoneAgain : List Event → Bool → (s t : S) → Type 0
  DoneAgain es true s t = (t ≡ s) × ((u : S) × Leads (Does meaning) es u s)
  DoneAgain es false s t = (u : S) → Leads (Does meaning) es u s → ⊥
