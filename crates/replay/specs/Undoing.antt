-- The losers, transactions that were live when the store stopped, and the records of their undoing.
use Rattle.std.specs.Prelude.{◌≡◌, ℕ, ◌+◌, ◌-◌, ◌*◌, ◌/◌, ◌<◌, ◌↔◌, List, [], ◌∷◌, ◌++◌, length}
use Rattle.std.specs.Prelude.{take, drop, replicate, Contains}
use Rattle.std.specs.List.{flat_map}
use Rattle.std.specs.FinMap as maps
use Rattle.calls.specs.Transactions.{Entry, own, calls_of}
use Rattle.undo_log.specs.Logs.{Statuses, Lives}
use Rattle.gate_block.specs.Row.{block_head}
use Rattle.records.specs.declared.record.Record.{Record}
use Rattle.records.specs.Records.{IsNumber}
use Rattle.records.specs.Images.{Rise}
use Rattle.replay.specs.Steps.{State, Repeats}

-- The numbers are those of the live transactions, rising.
pub record Losers (numbers : List ℕ) (live : Statuses) : Type 0 where
  pub rise : Rise numbers
  pub are : (n : ℕ) → Contains numbers n ↔ Lives live n

-- a transaction that is undone: its calls are taken back one by one, and it ends
abbrev pub undo_of : ℕ → List (ℕ × Entry) → List Record
undo_of n es = replicate (length (calls_of (own n es))) (Record.Back n) ++ Record.Ended n ∷ []

-- transactions that are undone, one after another
abbrev pub undo_records : List ℕ → List (ℕ × Entry) → List Record
undo_records numbers es = flat_map (λ n. undo_of n es) numbers

-- The records lead from the state to one with no live transaction: they undo each that is live, by
-- rising number.
pub record Undo (state : State) (records : List Record) (undone : State) : Type 0 where
  pub numbers : List ℕ
  pub losers : Losers numbers state.live
  pub is : records ≡ undo_records numbers state.entries
  pub leads : Repeats records state undone
  pub over : undone.live ≡ maps.empty

-- The transaction is undone, and over: the records of that lead from s to t. The others are as they
-- were.
pub record IsOver (n : ℕ) (s t : State) : Type 0 where
  pub leads : Repeats (undo_of n s.entries) s t
  pub live : (m : ℕ) → Lives t.live m ↔ (Lives s.live m × (m ≡ n → ⊥))
  pub fewer : maps.len t.live + 1 ≡ maps.len s.live
  pub others : (m : ℕ) → (m ≡ n → ⊥) → own m t.entries ≡ own m s.entries

-- the most records of an undoing in one block
abbrev pub max_group : ℕ
max_group = 64

-- how many bytes a record of an undoing takes: its tag and the number of the transaction
abbrev pub undo_len : ℕ
undo_len = 9

-- The most bytes that a block of an undoing takes, with the gate behind it.
abbrev pub undo_block_len : ℕ
undo_block_len = block_head + max_group * undo_len + 1

-- The records in blocks of so many, the last with the rest.
abbrev pub AreBlocksOf : List Record → List (List Record) → Type 0
AreBlocksOf records [] = records ≡ []
AreBlocksOf records (block ∷ blocks) =
    (0 < length records) × (block ≡ take max_group records) ×
    AreBlocksOf (drop max_group records) blocks

-- a record of an undoing
abbrev pub IsUndoRecord : Record → Type 0
IsUndoRecord (Record.Back n) = IsNumber n
IsUndoRecord (Record.Ended n) = IsNumber n
IsUndoRecord r = ⊥

-- so many bytes have so many records of an undoing in blocks: those of each record, and the head of
-- each block
abbrev pub blocks_len : ℕ → ℕ
blocks_len count =
    undo_len * count + block_head * ((count + (max_group - 1)) / max_group)
