-- Histories of a book: its steps with their answers, and what they commit.
use Rattle.std.specs.Prelude.{◌≡◌, ℕ, ◌==◌, ◌+◌, ◌<◌, ◌≤◌, List, [], ◌∷◌, ◌++◌, length, drop}
use Rattle.std.specs.Prelude.{cond, Bool, true, false}
use Rattle.std.specs.Prelude.{Some, None, Result, Ok, Err}
use Rattle.std.specs.List.{flat_map}
use Rattle.calls.specs.declared.refusal.Refusal.{Refusal}
use Rattle.calls.specs.declared.when.When.{When}
use Rattle.calls.specs.Contents.{Collection}
use Rattle.calls.specs.Reads.{reads}
use Rattle.calls.specs.Transactions.{Leads, Event, Entry, Asked, Deferred, Transaction, Act}
use Rattle.calls.specs.Transactions.{Begins, Asks, Commits, Creates, committed, Serial}
use Rattle.calls.specs.Limits.{max_pending}
use Rattle.records.specs.declared.record.Record.{Record}
use Rattle.records.specs.Acts.{places}
use Rattle.steps.specs.Machine.{State}
use Rattle.boosted.specs.Meaning.{Meaning}
use Rattle.catalog.specs.Making.{Making}
use Rattle.txn.specs.declared.actions.Action.{Action}
use Rattle.txn.specs.declared.actions.BookStep.{BookStep}
use Rattle.txn.specs.declared.actions.Target.{Target}
use Rattle.txn.specs.Rows.{Standing, Answers, record_of, later_record}

-- ---- what steps say

-- what is said of the collection of a step, where it is known
abbrev pub of_target : {T : Type 0} → Target → (ℕ → List T) → List T
of_target (Target.Number at) f = f at
of_target (Target.Named name (Some at)) f = f at
of_target (Target.Named name None) f = []

-- What a call that is asked for enters in the log of its transaction.
abbrev pub entry_of : When → Event → Entry
entry_of When.Now e = Asked e
entry_of When.AtCommit e = Deferred e.at e.call

-- What a step says of transactions. A refused one says nothing.
abbrev pub acts_of_action : Action → List Act
acts_of_action (Action.Make name kind (Ok place)) = Creates name kind ∷ []
acts_of_action (Action.Enter n (Ok done)) = Begins n ∷ []
acts_of_action (Action.Ask n target call when (Ok reply)) = of_target target
    (λ at. Asks n (entry_of when (record { at = at; call = call; reply = reply })) ∷ [])
acts_of_action (Action.Commit n (Ok place)) = Commits n ∷ []
acts_of_action action = []

-- The transactions that the steps commit, in the order of their commits, each with the calls and
-- replies that its steps show.
abbrev pub committed_by : List BookStep → List Transaction
committed_by steps = committed (flat_map (λ x. acts_of_action x.action) steps)

-- the calls of each number that are not undone, the newest first
abbrev pub LiveCalls : Type 0
LiveCalls = ℕ → List Event

-- the same, where one number has these
abbrev pub with_calls : LiveCalls → ℕ → List Event → LiveCalls
with_calls live n es = λ m. cond (m == n) es (live m)

-- What steps show of them, with one step more.
abbrev pub shows : LiveCalls → Action → LiveCalls
shows live (Action.Ask n target call When.Now (Ok reply)) = with_calls live n
    (of_target target (λ at. record { at = at; call = call; reply = reply } ∷ []) ++ live n)
shows live (Action.Back n (Ok true)) = with_calls live n (drop 1 (live n))
shows live (Action.Commit n (Ok place)) = with_calls live n []
shows live (Action.Ended n (Ok done)) = with_calls live n []
shows live action = live

-- the live calls behind the steps
abbrev pub shown_by : LiveCalls → List BookStep → LiveCalls
shown_by live [] = live
shown_by live (x ∷ steps) = shown_by (shows live x.action) steps

-- the record, unless it would tell of a call that only reads
abbrev pub unless_read : Event → Record → List Record
unless_read e r = cond (reads e.call e.reply) [] (r ∷ [])

-- The record of the undoing of the first of these calls.
abbrev pub back_records : ℕ → List Event → List Record
back_records n [] = Record.Back n ∷ []
back_records n (e ∷ es) = unless_read e (Record.Back n)

-- The records of a call that is asked for.
abbrev pub asked_records : When → ℕ → Event → List Record
asked_records When.Now n e = unless_read e (record_of n e)
asked_records When.AtCommit n e = later_record n e.at e.call ∷ []

-- What a step adds to the journal, where these calls are live. A refused one adds nothing, and one
-- that only reads, or undoes what only read, adds nothing either.
abbrev pub records_of_action : LiveCalls → Action → List Record
records_of_action live (Action.Make name kind (Ok place)) = Record.Make kind name ∷ []
records_of_action live (Action.Enter n (Ok done)) = Record.Begin n ∷ []
records_of_action live (Action.Ask n target call when (Ok reply)) = of_target target
    (λ at. asked_records when n (record { at = at; call = call; reply = reply }))
records_of_action live (Action.Commit n (Ok place)) = Record.Commit n ∷ []
records_of_action live (Action.Back n (Ok true)) = back_records n (live n)
records_of_action live (Action.Ended n (Ok done)) = Record.Ended n ∷ []
records_of_action live action = []

-- The records of the steps, in their order, where these calls were live before them.
abbrev pub records_after : LiveCalls → List BookStep → List Record
records_after live [] = []
records_after live (x ∷ steps) =
    records_of_action live x.action ++ records_after (shows live x.action) steps

-- where no call is live
abbrev pub no_calls : LiveCalls
no_calls = λ n. []

-- The records of the steps since a book was opened, in their order.
abbrev pub records_by : List BookStep → List Record
records_by steps = records_after no_calls steps

-- What is done, without the number of records that a cut handed over.
abbrev pub without_count : Action → Action
without_count (Action.Cut count a) = Action.Cut 0 a
without_count action = action

-- A step without the number of records that it handed over.
abbrev pub uncounted : BookStep → BookStep
uncounted x = record x { action = without_count x.action }

-- ---- legal histories

-- One record more waits.
pub record Adds {S : Type 0} (s : Standing S) (r : Record) (t : Standing S) : Type 0 where
  pub room : s.pending < max_pending
  pub is : t ≡ record s {
    state =
        t.state;
    pending = s.pending + 1;
    places = s.places + places (r ∷ []);
  }

-- Nothing but the state changes.
abbrev pub Shifts : {S : Type 0} → Standing S → Standing S → Type 0
Shifts s t = t ≡ record s { state = t.state }

-- So many records are handed over, at least one; or none, where none waits; or it is refused.
abbrev pub CutRow : {S : Type 0} → Standing S → ℕ → Result Bool Refusal → Standing S → Type 0
CutRow s count (Ok true) t =
    (1 ≤ count) × (s.pending ≡ count + t.pending) × (t ≡ record s { pending = t.pending })
CutRow s count (Ok false) t = (count ≡ 0) × (s.pending ≡ 0) × (t ≡ s)
CutRow s count (Err e) t = (count ≡ 0) × (t ≡ s)

module _ {S : Type 0} (meaning : Meaning S ℕ) (making : Making S) where
  -- The step leads from one standing to another: one row of the histories of an object of one
  -- thread.
  abbrev pub Row : Standing S → Action → Standing S → Type 0
  Row s (Action.Cut count a) t = CutRow s count a t
  Row s (Action.Gather a) t = t ≡ s
  Row s (Action.Freeze a) t = t ≡ s
  Row s action t = Answers meaning making (λ v. v) Adds Shifts s action t

  -- The history leads from one standing to another, step by step.
  abbrev pub IsLegal : Standing S → List BookStep → Standing S → Type 0
  IsLegal s steps t = Leads (λ u x v. Row u x.action v) steps s t

-- What a history comes to: a sound state, and a settled content to which the committed transactions
-- lead, each run whole, one after another, with the replies that were got. The places count them.
-- sound: what holds of every state. collections: the content as named collections. settled: the
-- contents without the live transactions.
pub record ComesTo {S : Type 0} (sound : State S → Type 0) (collections : S → List Collection)
    (settled : State S → S → Type 0) (b : Standing S) (steps : List BookStep) (c : Standing S) :
    Type 0 where
  pub is_sound : sound c.state
  pub content : S
  pub is_settled : settled c.state content
  pub serial : Serial (committed_by steps) (collections b.state.now) (collections content)
  pub places : c.places ≡ b.places + length (committed_by steps)
