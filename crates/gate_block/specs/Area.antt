-- What an area holds, and what a stop may leave of it.
use Rattle.std.specs.Prelude.{◌≡◌, ◌≢◌, ◌⊎◌, ℕ, ◌+◌, Bool, List, [], ◌∷◌, ◌++◌, length, Option}
use Rattle.std.specs.Prelude.{None, Some, Vec}
use Rattle.std.specs.declared.alloc.Global.{Global}
use Rattle.disk_model.specs.Disk.{IsAtRest}
use Rattle.gate_block.specs.declared.area.Area.{Area}
use Rattle.gate_block.specs.Row.{row, part, IsRow, SameOutside, IsBroken}

-- where on the disk the area begins
abbrev pub base_of : Area → ℕ
base_of a = a.base

-- how many bytes it has
abbrev pub size_of : Area → ℕ
size_of a = a.size

-- where in the area the next gate stands
abbrev pub offset_of : Area → ℕ
offset_of a = a.offset

-- a call on it answered that the disk failed
abbrev pub has_failed : Area → Bool
has_failed a = a.failed

-- the area's bytes
abbrev pub bytes_of : Area → List ℕ → List ℕ
bytes_of a disk = part a.base a.size disk

-- the area holds these blocks, its offset is behind them, and a stop now leaves of the area what a
-- read gives
pub record IsReady {D : Type 0} (seen : D → List ℕ) (may_leave : D → List ℕ → Type 0) (area : Area)
    (disk : D) (bodies : List (List ℕ)) : Type 0 where
  pub holds : IsRow bodies (bytes_of area (seen disk))
  pub offset : offset_of area ≡ length (row bodies)
  pub at_rest : (c : List ℕ) → may_leave disk c → bytes_of area c ≡ bytes_of area (seen disk)

-- the area holds these blocks, and a stop now leaves of the disk what a read gives
pub record HoldsRow {D : Type 0} (seen : D → List ℕ) (may_leave : D → List ℕ → Type 0) (area : Area)
    (disk : D) (bodies : List (List ℕ)) : Type 0 where
  pub holds : IsRow bodies (bytes_of area (seen disk))
  pub at_rest : IsAtRest seen may_leave disk

-- The blocks of these bodies were laid one after another from the area's start on, with a closed
-- gate behind them, and its offset is behind them.
-- Where there is none, anything may stand there.
pub record IsLaid (area : Area) (disk : List ℕ) (bodies : List (List ℕ)) : Type 0 where
  pub offset : offset_of area ≡ length (row bodies)
  pub holds : bodies ≢ [] → IsRow bodies (bytes_of area disk)

-- a stop leaves each byte outside the area as it might have left it before
abbrev pub LeavesElsewhere : (List ℕ → Type 0) → Area → List ℕ → Type 0
LeavesElsewhere before area c =
    (d : List ℕ) × before d × SameOutside (base_of area) (size_of area) d c

-- a stop leaves the area with these blocks, or with one more, and each other byte as it might have
-- left it before
pub record LeavesBlocks (before : List ℕ → Type 0) (area : Area) (bodies : List (List ℕ))
    (body c : List ℕ) : Type 0 where
  pub blocks : IsRow bodies (bytes_of area c) ⊎ IsRow (bodies ++ body ∷ []) (bytes_of area c)
  pub elsewhere : LeavesElsewhere before area c

-- what was found, as a list
abbrev pub body_in : Option (Vec ℕ Global) → Option (List ℕ)
body_in None = None
body_in (Some v) = Some (v.items)

-- the place is that of the area's next gate, which is broken where the disk read true
pub record IsDamage (is_honest : Type 0) (area : Area) (disk : List ℕ) (place : ℕ) : Type 0 where
  pub here : place ≡ base_of area + offset_of area
  pub broken : is_honest → IsBroken (bytes_of area disk) (offset_of area)
