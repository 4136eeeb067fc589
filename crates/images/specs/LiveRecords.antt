-- What an image tells of the live transactions.
use Rattle.std.specs.Prelude.{ℕ, Bool, true, false, List, [], ◌∷◌, Option, Some}
use Rattle.std.specs.FinMap as maps
use Rattle.std.specs.List.{flat_map}
use Rattle.calls.specs.Rules.{inverse_of}
use Rattle.calls.specs.Reads.{reads}
use Rattle.calls.specs.Transactions.{Entry, Asked, Deferred}
use Rattle.undo_log.specs.Logs.{Statuses}
use Rattle.records.specs.declared.record.Record.{Record}
use Rattle.records.specs.Records.{call_record}
use Rattle.steps.specs.Machine.{State}

-- the record, unless its transaction is falling
abbrev pub unless_falling : Option Bool → Record → List Record
unless_falling (Some true) r = []
unless_falling other r = r ∷ []

-- the record, unless it is of a call that only reads
abbrev pub unless_read : Bool → Record → List Record
unless_read true r = []
unless_read false r = r ∷ []

-- What an image tells of one entry of a live transaction: each call that did not only read, and
-- what was deferred by one that is not falling.
abbrev pub live_record : Statuses → ℕ × Entry → List Record
live_record live (n, Asked e) = unless_read (reads e.call e.reply)
    (Record.LiveCall (call_record n e.at e.call e.reply (inverse_of e.call e.reply)))
live_record live (n, Deferred at call) =
    unless_falling (maps.get live n)
    (Record.LiveLater (record { number = n; collection = at; call = call }))

-- what it tells of all of them, in the order asked
abbrev pub live_records : {S : Type 0} → State S → List Record
live_records s = flat_map (live_record s.live) s.entries
