-- The machine over records as an object: the states that it may be in, and what it answers of a
-- record.
use Rattle.std.specs.Prelude.{◌≡◌, ℕ, ◌+◌, ◌≤◌, ◌↔◌, [], length, Contains, Bool, true}
use Rattle.std.specs.Prelude.{false, Result, Ok, Err}
use Rattle.std.specs.FinMap as maps
use Rattle.std.specs.List.{AllByRecursion}
use Rattle.calls.specs.declared.refusal.Refusal.{Refusal}
use Rattle.calls.specs.declared.format.Format.{Format}
use Rattle.calls.specs.Rules.{Askable, IsShort, Deferrable, Pairs}
use Rattle.calls.specs.Transactions.{Entry, Asked, Deferred, own}
use Rattle.calls.specs.Limits.{max_collections, max_live, max_calls, max_wear}
use Rattle.abstract_locks.specs.declared.table.Hold.{Hold}
use Rattle.undo_log.specs.Logs.{Lives}
use Rattle.records.specs.declared.record.Record.{Record}
use Rattle.records.specs.Records.{IsNumber}
use Rattle.records.specs.Short.{IsShortReply}
use Rattle.steps.specs.Machine.{State}
use Rattle.boosted.specs.Meaning.{Meaning}
use Rattle.catalog.specs.Making.{Making}

-- a state with no live transaction
abbrev pub resting : {S : Type 0} → Format → S → (wear : ℕ) → State S
resting format now wear = record {
  now = now;
  live = maps.empty;
  entries = [];
  holds = [];
  wear = wear;
  format = format;
}

-- ---- what holds of every state

-- It may stand among what was asked for: a call that a client can ask for, with a reply that it
-- has, neither with a value too long for the format; or a call that a client can defer.
abbrev pub IsAskedEntry : Format → Entry → Type 0
IsAskedEntry f (Asked e) = Askable e.call × IsShort f e.call × Pairs e.call e.reply ×
    IsShortReply f e.reply
IsAskedEntry f (Deferred at c) = Deferrable c

-- short: no value in the collections is too long for the format. sound: what holds of every state
-- that the machine reaches, in the words of the theory.
module _ {S : Type 0} (meaning : Meaning S ℕ) (making : Making S) (short : Format → S → Type 0)
    (sound : State S → Type 0) where
  pub record IsUpheld (s : State S) : Type 0 where
    pub few_live : maps.len s.live ≤ max_live
    pub few_calls : (n : ℕ) → length (own n s.entries) ≤ max_calls
    pub few_names : length (making.names s.now) ≤ max_collections
    pub reached : meaning.within s.now s.wear
    -- each call that is not undone may be undone
    pub unworn : s.wear + length s.entries ≤ max_wear
    pub numbers : (n : ℕ) → Lives s.live n → IsNumber n
    pub spells : short s.format s.now
    pub asked : AllByRecursion (λ e. IsAskedEntry s.format e.1) s.entries
    pub holds : sound s

-- ---- repeating a record

-- There is room in the wear for one step more, behind which there are so many more calls to undo.
abbrev pub HasRoomFor : {S : Type 0} → State S → (more : ℕ) → Type 0
HasRoomFor s more = s.wear + 1 + (length s.entries + more) ≤ max_wear

-- What is answered of a making that the collections refuse.
abbrev pub unmade : Refusal → Result Bool Refusal
unmade Refusal.NoMemory = Err Refusal.NoMemory
unmade other = Ok false

-- What a record's step answers: it was taken; or none leads from there, and nothing changed; or
-- there was no memory, and nothing changed.
abbrev pub StepAnswers : {S : Type 0} → (State S → Record → State S → Type 0) → State S → Record →
    Result Bool Refusal → State S → Type 0
StepAnswers steps s r (Ok true) t = steps s r t
StepAnswers {S} steps s r (Ok false) t = (t ≡ s) × ((v : State S) → steps s r v → ⊥)
StepAnswers steps s r (Err Refusal.NoMemory) t = t ≡ s
StepAnswers steps s r (Err e) t = ⊥

-- The same state, but for the order in which the needs are kept.
pub record Alike {S : Type 0} (s t : State S) : Type 0 where
  pub now : s.now ≡ t.now
  pub live : s.live ≡ t.live
  pub entries : s.entries ≡ t.entries
  pub holds : (h : Hold) → Contains s.holds h ↔ Contains t.holds h
  pub wear : s.wear ≡ t.wear
  pub format : s.format ≡ t.format

-- When each answer of repeating a record comes. It was its step, and leads from each state alike to
-- one alike; or none leads from there, nor from any state alike, and nothing changed; or there was
-- no memory, and nothing changed.
abbrev pub RepeatAnswers : {S : Type 0} → (State S → Record → State S → Type 0) → State S → Record →
    Result Bool Refusal → State S → Type 0
RepeatAnswers {S} steps s r (Ok true) t =
    steps s r t × ((u v : State S) → Alike u s → steps u r v → Alike v t)
RepeatAnswers {S} steps s r (Ok false) t = (t ≡ s) × ((u v : State S) → Alike u s → steps u r v → ⊥)
RepeatAnswers steps s r (Err Refusal.NoMemory) t = t ≡ s
RepeatAnswers steps s r (Err e) t = ⊥
