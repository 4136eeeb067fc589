-- An image on its way into the area that is not in use, and how it becomes the store.
use Rattle.std.specs.Prelude.{◌≡◌, ◌⊎◌, ℕ, ◌+◌, ◌<◌, ◌≤◌, Bool, false, List, [], ◌++◌, length, map}
use Rattle.std.specs.Prelude.{get_or, Option, Some, None, Vec}
use Rattle.std.specs.Option.{IsSomeAnd}
use Rattle.std.specs.declared.alloc.Global.{Global}
use Rattle.disk_model.specs.Disk.{Torn}
use Rattle.gate_block.specs.declared.area.Area.{Area}
use Rattle.gate_block.specs.Row.{row, IsRow}
use Rattle.gate_block.specs.Layout.{base_in_use}
use Rattle.gate_block.specs.Area.{has_failed, base_of, size_of, offset_of, bytes_of, IsLaid}
use Rattle.gate_block.specs.Layout.{areas_at, root_at}
use Rattle.records.specs.Wholes.{body_of}
use Rattle.records.specs.declared.block.Image.{Image}
use Rattle.checkpoint.specs.declared.laying.Laying.{Laying}
use Rattle.checkpoint.specs.declared.stage.Ending.{Ending}
use Rattle.checkpoint.specs.declared.stage.Stage.{Stage}

-- The other one of the two areas of a disk, which has the same size. They begin at 4096 and behind
-- the first one, so the sum tells which is which.
pub record IsOther (area other : Area) : Type 0 where
  pub size : size_of other ≡ size_of area
  pub base : base_of area + base_of other ≡ 8192 + size_of area

-- the bodies of whole blocks
abbrev pub bodies_of : List (Vec ℕ Global) → List (List ℕ)
bodies_of blocks = map (λ b. body_of b.items) blocks

-- the blocks, with a closed gate behind the last, need more than so many bytes
abbrev pub IsTooLong : ℕ → List (Vec ℕ Global) → Type 0
IsTooLong size blocks = size < length (row (bodies_of blocks)) + 1

-- the blocks of an image that are not yet written
abbrev pub left_of : Laying → List (Vec ℕ Global)
left_of w = w.image.blocks.items

-- An image is laid into the other area, which has room for what is left of it.
pub record IsLaidBeside (area : Area) (failed : Bool) (w : Laying) : Type 0 where
  pub other : IsOther area w.area
  pub fine : failed ≡ false → has_failed w.area ≡ false
  pub room : offset_of w.area + length (row (bodies_of (left_of w))) < size_of w.area

-- These are the bodies of an image: its first blocks were laid in the area, and the others are
-- left.
pub record IsBeingLaid (w : Laying) (disk : List ℕ) (bodies : List (List ℕ)) : Type 0 where
  pub laid : List (List ℕ)
  pub stands : IsLaid w.area disk laid
  pub all : laid ++ bodies_of (left_of w) ≡ bodies

-- an image that goes into the same part of the disk, and has the same end and place
pub record IsSameImage (w v : Laying) : Type 0 where
  pub base : base_of v.area ≡ base_of w.area
  pub size : size_of v.area ≡ size_of w.area
  pub end : v.image.end ≡ w.image.end
  pub place : v.image.place ≡ w.image.place

-- ---- how far a keeper is with an image

-- the image ends there
abbrev pub EndsThere : Ending → Image → Type 0
EndsThere e image = (image.end ≡ e.end) × (image.place ≡ e.place)

-- the image is the one that is awaited
abbrev pub IsAwaited : Stage → Image → Type 0
IsAwaited (Stage.Awaited e) image = EndsThere e image
IsAwaited stage image = ⊥

-- one is awaited that ends elsewhere
abbrev pub IsAwaitedElse : Stage → Image → Type 0
IsAwaitedElse (Stage.Awaited e) image = ¬ EndsThere e image
IsAwaitedElse stage image = ⊥

-- an image is here
abbrev pub IsHere : Stage → Type 0
IsHere (Stage.Laid w) = Unit {0}
IsHere stage = ⊥

-- how many pieces are left, where an image is here
abbrev pub pieces_left : Stage → Option ℕ
pieces_left (Stage.Laid w) = Some (length (left_of w))
pieces_left stage = None

-- where the image that is being written ends, or is to end
abbrev pub end_of : Stage → Option ℕ
end_of Stage.Idle = None
end_of (Stage.Awaited e) = Some e.end
end_of (Stage.Laid w) = Some w.image.end

-- an image is here, and a piece of it is left
abbrev pub HasPiece : Stage → Type 0
HasPiece stage = IsSomeAnd (pieces_left stage) (λ n. 1 ≤ n)

-- an image is here, all pieces of which are written
abbrev pub IsWritten : Stage → Type 0
IsWritten (Stage.Laid w) = left_of w ≡ []
IsWritten stage = ⊥

-- an image that is here is laid beside the area
abbrev pub IsBeside : Area → Bool → Stage → Type 0
IsBeside area failed (Stage.Laid w) = IsLaidBeside area failed w
IsBeside area failed stage = Unit {0}

-- The root byte picks the area, and a stop now leaves of both what a read gives.
pub record IsRooted {D : Type 0} (seen : D → List ℕ) (may_leave : D → List ℕ → Type 0) (area : Area)
    (disk : D) : Type 0 where
  pub picks : base_in_use (size_of area) (seen disk) ≡ base_of area
  pub root_at_rest : (c : List ℕ) → may_leave disk c →
      get_or c root_at 0 ≡ get_or (seen disk) root_at 0
  pub area_at_rest : (c : List ℕ) → may_leave disk c → bytes_of area c ≡ bytes_of area (seen disk)

-- The root byte is 0 where the area that begins there is the first, and 1 where it is the second.
pub record HasPlainRoot (base : ℕ) (bytes : List ℕ) : Type 0 where
  pub first : base ≡ areas_at → get_or bytes root_at 0 ≡ 0
  pub second : (base ≡ areas_at → ⊥) → get_or bytes root_at 0 ≡ 1

-- a stop leaves what it might have left before, or what a read gave before, with any root byte
abbrev pub LeavesRoot : (List ℕ → Type 0) → List ℕ → List ℕ → Type 0
LeavesRoot before seen c = before c ⊎ Torn root_at 1 seen c

-- The root byte picks the area that was in use, which has the bytes from before, or the image's,
-- which has all blocks of the image.
abbrev pub PicksWhole : Area → List ℕ → Area → List (List ℕ) → List ℕ → Type 0
PicksWhole area before other bodies c =
    ((base_in_use (size_of area) c ≡ base_of area) × (bytes_of area c ≡ bytes_of area before))
    ⊎ ((base_in_use (size_of area) c ≡ base_of other) × IsRow bodies (bytes_of other c))
