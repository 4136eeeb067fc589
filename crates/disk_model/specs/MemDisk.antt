-- The parts of a disk in memory.
use Rattle.std.specs.Prelude.{◌≡◌, ◌-◌, ◌↔◌, ℕ, Bool, List, Result, IsErr}
use Rattle.disk_model.specs.declared.disk.Fault.{Fault}
use Rattle.disk_model.specs.declared.past.Past.{Past}
use Rattle.disk_model.specs.declared.mem_disk.MemDisk.{MemDisk}

abbrev pub mem_bytes : MemDisk → List ℕ
mem_bytes d = d.bytes.items

-- a mark on each byte that was written since the last sync
abbrev pub mem_marks : MemDisk → List Bool
mem_marks d = d.marks.items

-- what the disk was at each earlier moment
abbrev pub mem_past : MemDisk → Past
mem_past d = d.past

abbrev pub mem_faults : MemDisk → ℕ
mem_faults d = d.faults

-- the device call from now that fails, 0 for none
abbrev pub mem_fail_in : MemDisk → ℕ
mem_fail_in d = d.fail_in

-- a call fails exactly where it is the one that is to, and otherwise that one is nearer
pub record FailsInTurn {T : Type 0} (before now : ℕ) (result : Result T Fault) : Type 0 where
  pub fails : IsErr result ↔ (before ≡ 1)
  pub nearer : now ≡ before - 1
