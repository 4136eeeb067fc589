-- The rows of a book's histories: when each step gets which answer, and what it leaves.
use Rattle.calls.specs.declared.format.Format.{Format}
use Rattle.std.specs.Prelude.{◌≡◌, ℕ, ◌<◌, ◌≤◌, ◌⊎◌, Bool, true, false, List}
use Rattle.std.specs.Prelude.{length, Some, None, Result, Ok, Err}
use Rattle.std.specs.FinMap as maps
use Rattle.calls.specs.declared.call.Call.{Call}
use Rattle.calls.specs.declared.reply.Reply.{Reply}
use Rattle.calls.specs.declared.when.When.{When}
use Rattle.calls.specs.declared.refusal.Refusal.{Refusal}
use Rattle.calls.specs.Rules.{need_of, AsksForValue}
use Rattle.calls.specs.Reads.{reads}
use Rattle.calls.specs.Transactions.{Event, own}
use Rattle.abstract_locks.specs.Holds.{IsBusy, IsClear}
use Rattle.undo_log.specs.Entries.{HasNoCall}
use Rattle.undo_log.specs.Logs.{Lives, Falls}
use Rattle.undo_log.specs.LeftCalls.{GoesTwice}
use Rattle.boosted.specs.Meaning.{Meaning}
use Rattle.steps.specs.Looks.{CanTake, TakeRefused}
use Rattle.catalog.specs.Making as naming
use Rattle.catalog.specs.Making.{Making, IsPlaceOf, FindRefused}
use Rattle.calls.specs.Names.{IsName}
use Rattle.calls.specs.Limits.{max_live, max_calls, max_pending, number_end}
use Rattle.records.specs.declared.record.Record.{Record}
use Rattle.records.specs.Records.{record_of_call, IsNumber}
use Rattle.steps.specs.Machine.{State, IsRunning, CanBegin, CanCall, CanDeferCall, BeginRow}
use Rattle.steps.specs.Machine.{CommitRow}
use Rattle.steps.specs.Machine.{EndedRow, FallRow, MakeRow, CallRow, LaterRow, ReadRow, UnreadRow}
use Rattle.steps.specs.Machine.{WrittenBackRow}
use Rattle.steps.specs.Machines.{resting}
use Rattle.txn.specs.declared.actions.Action.{Action}
use Rattle.txn.specs.declared.actions.Target.{Target}

-- What stands of a book: the collections with the live transactions on them, how many records wait,
-- and how many commits and makes there were.
pub record Standing (S : Type 0) : Type 0 where
  pub state : State S
  pub pending : ℕ
  pub places : ℕ

-- where the histories of an opened book begin
abbrev pub opening : {S : Type 0} → Format → S → (wear : ℕ) → Standing S
opening format now wear = record { state = resting format now wear; pending = 0; places = 0 }

abbrev pub IsFull : {S : Type 0} → Standing S → Type 0
IsFull b = max_pending ≤ b.pending

-- ---- refusals

-- A transaction that is not live, or falling, is refused so.
abbrev pub RunRefused : {S : Type 0} → Standing S → ℕ → Refusal → Type 0
RunRefused b n Refusal.NoSuchTxn = Lives b.state.live n → ⊥
RunRefused b n Refusal.Falling = Falls b.state.live n
RunRefused b n e = ⊥

abbrev pub MakeRefused : List (List ℕ) → {S : Type 0} → Standing S → List ℕ → Refusal → Type 0
MakeRefused names b name Refusal.Backlog = IsFull b
MakeRefused names b name e = (IsFull b → ⊥) × naming.MakeRefused names name e

-- The number may begin, and its record has room.
pub record CanEnter {S : Type 0} (b : Standing S) (n : ℕ) : Type 0 where
  pub begins : CanBegin b.state n
  pub unworn : b.state.wear < number_end
  pub room : b.pending < max_pending

abbrev pub EnterRefused : {S : Type 0} → Standing S → ℕ → Refusal → Type 0
EnterRefused b n Refusal.BadArg = IsNumber n → ⊥
EnterRefused b n Refusal.AlreadyLive = IsNumber n × Lives b.state.live n
EnterRefused b n Refusal.TooManyLive =
    IsNumber n × (Lives b.state.live n → ⊥) × (max_live ≤ maps.len b.state.live)
EnterRefused b n Refusal.Worn = CanBegin b.state n × (number_end ≤ b.state.wear)
EnterRefused b n Refusal.Backlog = CanBegin b.state n × (b.state.wear < number_end) × IsFull b
EnterRefused b n Refusal.NoMemory = CanEnter b n
EnterRefused b n e = ⊥

-- The running transaction can have what it asks for, and has room for it.
pub record IsOpen {S : Type 0} (ask : Type 0) (b : Standing S) (n : ℕ) : Type 0 where
  pub running : IsRunning b.state n
  pub asked : ask
  pub unworn : b.state.wear < number_end
  pub few : length (own n b.state.entries) < max_calls
  pub room : b.pending < max_pending

-- It is not running, or has no room for what it can ask, and is refused so.
abbrev pub OpenRefused : {S : Type 0} → (ask : Type 0) → Standing S → ℕ → Refusal → Type 0
OpenRefused ask b n Refusal.NoSuchTxn = Lives b.state.live n → ⊥
OpenRefused ask b n Refusal.Falling = Falls b.state.live n
OpenRefused ask b n Refusal.Worn = IsRunning b.state n × ask × (number_end ≤ b.state.wear)
OpenRefused ask b n Refusal.TooManyCalls =
    IsRunning b.state n × ask × (b.state.wear < number_end) ×
    (max_calls ≤ length (own n b.state.entries))
OpenRefused ask b n Refusal.Backlog =
    IsRunning b.state n × ask × (b.state.wear < number_end) ×
    (length (own n b.state.entries) < max_calls) ×
    IsFull b
OpenRefused ask b n e = ⊥

module _ {S : Type 0} (meaning : Meaning S ℕ) where
  -- The call may get a reply now with which nothing is in its way.
  abbrev pub IsUnhindered : Standing S → (n at : ℕ) → Call → Type 0
  IsUnhindered b n at call =
      (reply : Reply) × meaning.answers b.state.now at call reply ×
      (GoesTwice b.state.entries n (record { at = at; call = call; reply = reply }) → ⊥) ×
      IsClear b.state.holds n at (need_of call reply)

  -- A call that the transaction has room for is refused so: what it would leave is going already,
  -- or another transaction holds a need in its way. Memory is wanted for a value of the reply, or
  -- where nothing is in the way.
  abbrev pub AskedInVain : Standing S → (n at : ℕ) → Call → Refusal → Type 0
  AskedInVain b n at call Refusal.AlreadyGoing =
      (reply : Reply) × meaning.answers b.state.now at call reply ×
      GoesTwice b.state.entries n (record { at = at; call = call; reply = reply })
  AskedInVain b n at call (Refusal.Busy m) =
      (reply : Reply) × meaning.answers b.state.now at call reply ×
      (GoesTwice b.state.entries n (record { at = at; call = call; reply = reply }) → ⊥) ×
      IsBusy b.state.holds n at (need_of call reply) m
  AskedInVain b n at call Refusal.NoMemory = AsksForValue call ⊎ IsUnhindered b n at call
  AskedInVain b n at call e = ⊥

  -- A call that could be deferred is refused so, where the transaction has room for it: another one
  -- holds a need in its way, or none does and memory is wanted.
  abbrev pub DeferredInVain : Standing S → (n at : ℕ) → Call → Refusal → Type 0
  DeferredInVain b n at call (Refusal.Busy m) =
      IsBusy b.state.holds n at (need_of call Reply.Done) m
  DeferredInVain b n at call Refusal.NoMemory =
      IsClear b.state.holds n at (need_of call Reply.Done)
  DeferredInVain b n at call e = ⊥

  -- What the transaction has room for is refused so.
  abbrev pub IsDenied : When → Standing S → (n at : ℕ) → Call → Refusal → Type 0
  IsDenied When.Now b n at call e = AskedInVain b n at call e
  IsDenied When.AtCommit b n at call e = DeferredInVain b n at call e

  -- A client can ask for the call of what the book holds.
  abbrev pub CanWant : When → Standing S → (at : ℕ) → Call → Type 0
  CanWant when b at call = CanTake meaning when b.state.format b.state.now at call

  -- The book refuses the call so: for a transaction that is running as the collections do, and for
  -- one that has room as above.
  abbrev pub RefusesAsk : When → Standing S → (n at : ℕ) → Call → Refusal → Type 0
  RefusesAsk when b n at call e =
      OpenRefused (CanWant when b at call) b n e ⊎
      ((IsRunning b.state n × TakeRefused meaning when b.state.format b.state.now at call e) ⊎
      (IsOpen (CanWant when b at call) b n × IsDenied when b n at call e))

  -- A running transaction can have the call, answered so: at once, or deferred.
  abbrev pub CanGet : When → State S → ℕ → Event → Type 0
  CanGet When.Now s n e = CanCall meaning s n e
  CanGet When.AtCommit s n e = CanDeferCall meaning s n e.at e.call × (e.reply ≡ Reply.Done)

-- The record cannot be appended: the records pending are too many, or memory is wanted.
abbrev pub AppendRefused : {S : Type 0} → Standing S → Refusal → Type 0
AppendRefused b Refusal.Backlog = IsFull b
AppendRefused b Refusal.NoMemory = IsFull b → ⊥
AppendRefused b e = ⊥

abbrev pub CommitRefused : {S : Type 0} → Standing S → ℕ → Refusal → Type 0
CommitRefused b n Refusal.NoSuchTxn = Lives b.state.live n → ⊥
CommitRefused b n Refusal.Falling = Falls b.state.live n
CommitRefused b n e = IsRunning b.state n × AppendRefused b e

abbrev pub BackRefused : {S : Type 0} → Standing S → ℕ → Refusal → Type 0
BackRefused b n Refusal.NoSuchTxn = Lives b.state.live n → ⊥
BackRefused b n e = Lives b.state.live n × AppendRefused b e

abbrev pub EndedRefused : {S : Type 0} → Standing S → ℕ → Refusal → Type 0
EndedRefused b n Refusal.NoSuchTxn = Lives b.state.live n → ⊥
EndedRefused b n Refusal.Unfinished = Lives b.state.live n × (HasNoCall n b.state.entries → ⊥)
EndedRefused b n e = Lives b.state.live n × HasNoCall n b.state.entries × AppendRefused b e

-- ---- records

-- a call's record
abbrev pub record_of : ℕ → Event → Record
record_of n e = record_of_call n e.at e.call e.reply

-- the record of a call that is deferred
abbrev pub later_record : (number collection : ℕ) → Call → Record
later_record n at call = Record.Later (record { number = n; collection = at; call = call })

-- ---- the rows

-- One table for all that steps lead on: a book, or what stands of one. at: what stands of it.
-- Appends: one record comes behind those that wait. Moves: none does.
module _ {S X : Type 0} (meaning : Meaning S ℕ) (making : Making S) (at : X → Standing S)
    (Appends : X → Record → X → Type 0) (Moves : X → X → Type 0) where
  -- A call is made: one that only reads leaves no record, where there would be room for it.
  abbrev pub IsMade : (only_reads : Bool) → X → ℕ → Event → X → Type 0
  IsMade true x n e y =
      ReadRow meaning (at x).state n e (at y).state × ((at x).pending < max_pending) × Moves x y
  IsMade false x n e y = CallRow meaning (at x).state n e (at y).state × Appends x (record_of n e) y

  -- The newest call is undone: of one that only reads no record tells.
  abbrev pub IsUndone : X → ℕ → X → Type 0
  IsUndone x n y =
      (WrittenBackRow meaning (at x).state n (at y).state × Appends x (Record.Back n) y) ⊎
      (UnreadRow (at x).state n (at y).state × ((at x).pending < max_pending) × Moves x y)

  -- A call is deferred. It is answered Done.
  abbrev pub IsDeferred : X → ℕ → Event → X → Type 0
  IsDeferred x n e y =
      LaterRow meaning (at x).state n e.at e.call (at y).state ×
      Appends x (later_record n e.at e.call) y × (e.reply ≡ Reply.Done)

  -- A call is taken, which gets the reply: made at once, or deferred.
  abbrev pub IsGranted : When → X → ℕ → Event → X → Type 0
  IsGranted When.Now x n e y = IsMade (reads e.call e.reply) x n e y
  IsGranted When.AtCommit x n e y = IsDeferred x n e y

  -- A call on the collection of a number.
  abbrev pub AskAnswers : X → (n p : ℕ) → Call → When → Result Reply Refusal → X → Type 0
  AskAnswers x n p call when (Ok reply) y =
      IsGranted when x n (record { at = p; call = call; reply = reply }) y ×
      ((at x).state.wear < number_end)
  AskAnswers x n p call when (Err e) y = (y ≡ x) × RefusesAsk meaning when (at x) n p call e

  -- No collection has the name: that is refused, and nothing changes.
  abbrev pub NotFound : X → List ℕ → Result Reply Refusal → X → Type 0
  NotFound x name (Ok reply) y = ⊥
  NotFound x name (Err e) y = (y ≡ x) × FindRefused (making.names (at x).state.now) name e

  -- The collection of the name has this number.
  abbrev pub IsFound : X → List ℕ → ℕ → Type 0
  IsFound x name p = IsName name × IsPlaceOf (making.names (at x).state.now) name p

  -- The step gets its answer of x and leads to y. That of handing over, and of an image, stands
  -- apart.
  abbrev pub Answers : X → Action → X → Type 0
  Answers x (Action.Make name kind (Ok place)) y =
      MakeRow making (at x).state name kind (at y).state × Appends x (Record.Make kind name) y ×
      (place ≡ (at y).places)
  Answers x (Action.Make name kind (Err e)) y =
      (y ≡ x) × MakeRefused (making.names (at x).state.now) (at x) name e
  Answers x (Action.Enter n (Ok done)) y =
      BeginRow (at x).state n (at y).state × ((at x).state.wear < number_end) ×
      Appends x (Record.Begin n) y
  Answers x (Action.Enter n (Err e)) y = (y ≡ x) × EnterRefused (at x) n e
  Answers x (Action.Ask n (Target.Number p) call when a) y = AskAnswers x n p call when a y
  Answers x (Action.Ask n (Target.Named name (Some p)) call when a) y =
      IsFound x name p × AskAnswers x n p call when a y
  Answers x (Action.Ask n (Target.Named name None) call when a) y = NotFound x name a y
  Answers x (Action.Commit n (Ok place)) y =
      CommitRow meaning (at x).state n (at y).state × Appends x (Record.Commit n) y ×
      (place ≡ (at y).places)
  Answers x (Action.Commit n (Err e)) y = (y ≡ x) × CommitRefused (at x) n e
  Answers x (Action.Back n (Ok true)) y = IsUndone x n y
  Answers x (Action.Back n (Ok false)) y =
      FallRow (at x).state n (at y).state × ((at x).pending < max_pending) × Moves x y
  Answers x (Action.Back n (Err e)) y = (y ≡ x) × BackRefused (at x) n e
  Answers x (Action.Ended n (Ok done)) y =
      EndedRow (at x).state n (at y).state × Appends x (Record.Ended n) y
  Answers x (Action.Ended n (Err e)) y = (y ≡ x) × EndedRefused (at x) n e
  Answers x (Action.Cut count a) y = ⊥
  Answers x (Action.Gather a) y = ⊥
  Answers x (Action.Freeze a) y = ⊥
