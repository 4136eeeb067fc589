-- What the records of a journal say of transactions.
use Rattle.std.specs.Prelude.{ℕ, suc, List, [], ◌∷◌}
use Rattle.std.specs.List.{flat_map}
use Rattle.calls.specs.Transactions.{Event, Act, Begins, Asks, Commits, Creates, Asked, Deferred}
use Rattle.records.specs.declared.record.Record.{Record}
use Rattle.records.specs.declared.record.CallRecord.{CallRecord}

abbrev pub event_of : CallRecord → Event
event_of c = record { at = c.collection; call = c.call; reply = c.reply }

abbrev pub acts_of_record : Record → List Act
acts_of_record (Record.Make kind name) = Creates name kind ∷ []
acts_of_record (Record.Call c) = Asks c.number (Asked (event_of c)) ∷ []
acts_of_record (Record.Later l) = Asks l.number (Deferred l.collection l.call) ∷ []
acts_of_record (Record.Commit n) = Commits n ∷ []
acts_of_record (Record.LiveCall c) = Asks c.number (Asked (event_of c)) ∷ []
acts_of_record (Record.LiveLater l) = Asks l.number (Deferred l.collection l.call) ∷ []
acts_of_record (Record.Begin n) = Begins n ∷ []
-- what is taken back commits nothing, and an image's other records are of no transaction
acts_of_record r = []

abbrev pub acts_of : List Record → List Act
acts_of rs = flat_map acts_of_record rs

-- how many of the records commit something
abbrev pub places : List Record → ℕ
places [] = 0
places (Record.Make kind name ∷ rs) = suc (places rs)
places (Record.Commit n ∷ rs) = suc (places rs)
places (r ∷ rs) = places rs
