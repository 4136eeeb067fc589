-- A store as it was found, with its losers undone in memory.
use Rattle.std.specs.Prelude.{◌≡◌, ℕ, ◌+◌, ◌≤◌, false, List, length}
use Rattle.std.specs.FinMap as maps
use Rattle.std.specs.List.{AllByRecursion}
use Rattle.calls.specs.declared.format.Format.{Format}
use Rattle.calls.specs.Formats.{max_area, widest}
use Rattle.gate_block.specs.declared.area.Area.{Area}
use Rattle.gate_block.specs.Area.{base_of, size_of, offset_of, has_failed}
use Rattle.records.specs.declared.record.Record.{Record}
use Rattle.checkpoint.specs.Keepers.{IsOneOfTwo}
use Rattle.recovery.specs.declared.report.Report.{Report}
use Rattle.replay.specs.Journals.{IsHeader}
use Rattle.gate_block.specs.Layout.{base_in_use}
use Rattle.replay.specs.Steps.{State}
use Rattle.replay.specs.Undoing.{Undo, IsUndoRecord}
use Rattle.recovery.specs.Loading.{IsLoaded}

-- The head picks the area, and that holds what leads to the state.
pub record IsStored (bytes : List ℕ) (area : Area) (state : State) (next count : ℕ) : Type 0 where
  pub version : Format
  pub header : IsHeader version (size_of area) bytes
  pub picks : base_of area ≡ base_in_use (size_of area) bytes
  pub loaded : IsLoaded version (base_of area) (size_of area) bytes state next count
      (offset_of area)

-- The area is one of the two of a disk of so many bytes, has not failed, and has so much room
-- behind its next gate.
pub record IsPlaced (area : Area) (bytes room : ℕ) : Type 0 where
  pub fine : has_failed area ≡ false
  pub one : IsOneOfTwo area bytes
  pub small : size_of area ≤ max_area widest
  pub behind : room + offset_of area ≡ size_of area

-- From a state that stands there, where the disk read true, the records of the undoing lead to the
-- machine's; the report tells of that state.
pub record IsFound (is_honest : Type 0) (bytes : List ℕ) (area : Area) (room : ℕ) (undone : State)
    (next : ℕ) (records : List Record) (report : Report) : Type 0 where
  pub state : State
  pub undo : Undo state records undone
  pub marks : AllByRecursion IsUndoRecord records
  pub stored : is_honest → IsStored bytes area state next report.records
  pub placed : IsPlaced area (length bytes) room
  pub collections : report.collections ≡ length state.now
  pub unfinished : report.unfinished ≡ maps.len state.live
