-- What a machine keeps beside its collections, by itself and with one shelf.
use Rattle.std.specs.Prelude.{ℕ, ◌+◌, []}
use Rattle.std.specs.FinMap as maps
use Rattle.calls.specs.declared.format.Format.{Format}
use Rattle.calls.specs.Rules.{Askable}
use Rattle.calls.specs.Transactions.{Event, others}
use Rattle.undo_log.specs.Entries.{HasNewestCall}
use Rattle.boosted.specs.Meaning.{Meaning, Undoes}
use Rattle.steps.specs.Shelves.{ShelfState}
use Rattle.undo_log.specs.Logs.{Log}
use Rattle.steps.specs.Machine.{State}
use Rattle.steps.specs.Wholes.{TransactionsState, state_on}

-- of these live transactions and so much wear, in a store of the format
abbrev pub transactions_of : Format → Log → (wear : ℕ) → TransactionsState
transactions_of format log wear = record {
  live = log.live;
  entries = log.entries;
  wear = wear;
  format = format;
}

-- It by itself, as a machine of no collections: so the rows say what a step does that touches none.
abbrev pub alone : TransactionsState → State (Unit {0})
alone a = state_on a (record { now = tt; holds = [] })

-- with no live transaction
abbrev pub rested : Format → (wear : ℕ) → TransactionsState
rested format wear = record { live = maps.empty; entries = []; wear = wear; format = format }

-- The transaction is taken out, for whose commit so many calls ran.
abbrev pub finished : (number ran : ℕ) → TransactionsState → TransactionsState
finished number ran a = record a {
  live = maps.remove a.live number;
  entries = others number a.entries;
  wear = a.wear + ran;
}

-- The newest call of the number, if there is one, is one of a client's, and can be undone on the
-- shelf.
abbrev pub CanUndo : {C : Type 0} → Meaning C ℕ → TransactionsState → ShelfState C → (number : ℕ) →
    Type 0
CanUndo {C} meaning a s number = (x : Event) → HasNewestCall number a.entries x →
    Askable x.call × ((before : C) × Undoes meaning s.now x.at x.call x.reply before)
