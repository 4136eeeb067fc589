-- What the writing of the undoing's records leaves.
use Rattle.std.specs.Prelude.{◌≡◌, ℕ, ◌+◌, false, List, [], ◌++◌, length, map}
use Rattle.gate_block.specs.declared.area.Area.{Area}
use Rattle.gate_block.specs.Row.{row, IsRow, SameOutside}
use Rattle.gate_block.specs.Area.{base_of, size_of, offset_of, has_failed, bytes_of}
use Rattle.records.specs.declared.record.Record.{Record}
use Rattle.records.specs.Records.{spelling}
use Rattle.replay.specs.Journals.{records_in}
use Rattle.replay.specs.Undoing.{AreBlocksOf}

-- The area is a row of these blocks, and its next gate is behind them.
pub record IsAt (area : Area) (bytes : List ℕ) (bodies : List (List ℕ)) : Type 0 where
  pub row_is : IsRow bodies (bytes_of area bytes)
  pub offset : offset_of area ≡ length (row bodies)

-- Behind the area's blocks stand blocks of the first of the records, and nothing changed elsewhere.
pub record HoldsFirst (area : Area) (old : List ℕ) (bodies : List (List ℕ)) (records : List Record)
    (bytes : List ℕ) : Type 0 where
  pub front : List (List Record)
  pub more : List Record
  pub is : records ≡ records_in front ++ more
  pub row_is : IsRow (bodies ++ map spelling front) (bytes_of area bytes)
  pub elsewhere : SameOutside (base_of area) (size_of area) old bytes

-- The records stand in blocks of 64 behind the blocks that were there, and nothing changed
-- elsewhere.
pub record IsAppended (records : List Record) (before after : Area) (old new : List ℕ) : Type
    0 where
  pub written : List (List Record)
  pub in_blocks : AreBlocksOf records written
  pub same_base : base_of after ≡ base_of before
  pub same_size : size_of after ≡ size_of before
  pub fine : has_failed after ≡ false
  pub offset : offset_of after ≡ offset_of before + length (row (map spelling written))
  pub counts : (bodies : List (List ℕ)) → IsAt before old bodies →
      IsRow (bodies ++ map spelling written) (bytes_of after new)
  pub elsewhere : SameOutside (base_of before) (size_of before) old new
  pub unwritten : written ≡ [] → new ≡ old
