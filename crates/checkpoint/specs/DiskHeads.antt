-- The head of a disk, and the area that it picks.
use Rattle.std.specs.Prelude.{◌≡◌, ℕ, List, length, take, map}
use Rattle.calls.specs.declared.format.Format.{Format}
use Rattle.calls.specs.Formats.{Allows}
use Rattle.gate_block.specs.declared.area.Area.{Area}
use Rattle.gate_block.specs.Area.{base_of, size_of, IsReady}
use Rattle.gate_block.specs.Layout.{base_in_use}
use Rattle.gate_block.specs.Layout.{areas_at}
use Rattle.records.specs.declared.record.Record.{Record}
use Rattle.records.specs.Records.{spelling}
use Rattle.replay.specs.Journals.{IsHeader}

-- The disk has a head, of a version that may have areas of the format, and its root picks the area.
pub record IsHeaded (format : Format) (area : Area) (bytes : List ℕ) : Type 0 where
  pub version : Format
  pub header : IsHeader version (size_of area) bytes
  pub allowed : Allows version format
  pub picks : base_in_use (size_of area) bytes ≡ base_of area

-- A stop now leaves the head of the disk as a read gives it.
pub record HasHead {D : Type 0} (seen : D → List ℕ) (may_leave : D → List ℕ → Type 0)
    (format : Format) (area : Area)
    (disk : D) : Type 0 where
  pub headed : IsHeaded format area (seen disk)
  pub head_at_rest : (c : List ℕ) → may_leave disk c → take areas_at c ≡ take areas_at (seen disk)
  pub same_size : (c : List ℕ) → may_leave disk c → length c ≡ length (seen disk)

-- The keeper's disk, which may have areas of the format, holds these blocks, and can take one more.
pub record IsInUse {D : Type 0} (seen : D → List ℕ) (may_leave : D → List ℕ → Type 0)
    (format : Format) (area : Area)
    (disk : D) (blocks : List (List Record)) : Type 0 where
  pub ready : IsReady seen may_leave area disk (map spelling blocks)
  pub head : HasHead seen may_leave format area disk
