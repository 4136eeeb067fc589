-- How many records the undoing of all that is live takes.
use Rattle.std.specs.Prelude.{ℕ, ◌+◌, Bool, false, not, List, length, map}
use Rattle.std.specs.FinMap as maps
use Rattle.calls.specs.Reads.{reads}
use Rattle.calls.specs.Transactions.{Event, Entry, Asked, Deferred, calls_of}
use Rattle.steps.specs.Machine.{State, journalled_entries}

-- It is a call, and a journal tells of it.
abbrev pub is_journalled_call : Entry → Bool
is_journalled_call (Asked e) = not (reads e.call e.reply)
is_journalled_call (Deferred at c) = false

-- the calls that a journal tells of: none that only reads
abbrev pub journalled_calls : List (ℕ × Entry) → List Event
journalled_calls es = calls_of (map (λ e. e.1) (journalled_entries es))

-- one record takes each of these calls back, and one ends each live transaction
abbrev pub undo_count : {S : Type 0} → State S → ℕ
undo_count s = length (journalled_calls s.entries) + maps.len s.live
