-- Where the next block of a store would go, and what has to fit behind it.
use Rattle.std.specs.Prelude.{◌≡◌, ◌≢◌, ◌⊎◌, ℕ, ◌+◌, ◌-◌, ◌^◌, ◌<◌, ◌≤◌, min, List, [], length}
use Rattle.std.specs.Prelude.{Option, None, Some, Result, Ok, Err}
use Rattle.calls.specs.declared.refusal.Refusal.{Refusal}
use Rattle.gate_block.specs.Area.{size_of, offset_of}
use Rattle.gate_block.specs.Row.{block_head}
use Rattle.records.specs.declared.record.Record.{Record}
use Rattle.records.specs.Cuts.{IsNextBlock}
use Rattle.records.specs.declared.draft.NextBlock.{NextBlock}
use Rattle.checkpoint.specs.Imaging.{end_of}
use Rattle.checkpoint.specs.Keepers.{KeeperState}
use Rattle.checkpoint.specs.declared.turn.Turn.{Turn}
use Rattle.replay.specs.Undoing.{blocks_len}
use Rattle.engine.specs.declared.room.Room.{Room}

-- The room behind the blocks of a keeper's area.
pub record IsRoomOf {D : Type 0} (k : KeeperState D) (room : Room) : Type 0 where
  pub free : room.free + offset_of k.area ≡ size_of k.area
  pub covered : room.covered ≡ k.covered
  pub image_end : room.image_end ≡ end_of k.stage

-- A block with a body of so many bytes fits, and behind it an undoing of so many records, in blocks
-- of 64, with a closed gate behind the last.
abbrev pub Fits : Room → (body undoing : ℕ) → Type 0
Fits room body undoing = block_head + body + blocks_len undoing < room.free

-- a block that ends there is past the image that is being written
abbrev pub IsPastImage : Option ℕ → ℕ → Type 0
IsPastImage None end = ⊥
IsPastImage (Some image_end) end = image_end < end

-- A block that ends there may be handed over, where the undoing behind it takes so many records:
-- the image of the area covers it; or it fits with that undoing, and no image that is being written
-- ends before it.
abbrev pub MayGo : Room → (body end undoing : ℕ) → Type 0
MayGo room body end undoing =
    (end ≤ room.covered) ⊎ (¬ IsPastImage room.image_end end × Fits room body undoing)

-- How many records the undoing takes at most of what is live behind the next block of so many
-- records, as is known: one more for each of them, where it took so many before; or, where all that
-- wait are in the block, so many as are counted.
abbrev pub IsUndoingBehind : (waiting records before counted undoing : ℕ) → Type 0
IsUndoingBehind waiting records before counted undoing =
    (undoing ≡ min (before + records) (2 ^ 64 - 1))
    ⊎ ((waiting ≡ records) × (undoing ≡ counted))

-- Which block comes next, of records that wait, and how many records the undoing then takes.
pub record GoesOn (pending : List Record) (freezes : List ℕ) (end before counted : ℕ) (room : Room)
    (undoing : ℕ) : Type 0 where
  pub next : NextBlock
  pub is : IsNextBlock pending freezes end next
  pub behind : IsUndoingBehind (length pending) next.records before counted undoing
  pub goes : MayGo room next.body (end + next.records) undoing

-- The next block may not go, whatever is known of the undoing behind it.
pub record IsBarred (pending : List Record) (freezes : List ℕ) (end before counted : ℕ)
    (room : Room) : Type 0 where
  pub next : NextBlock
  pub is : IsNextBlock pending freezes end next
  pub bars : (undoing : ℕ) →
      IsUndoingBehind (length pending) next.records before counted undoing →
      MayGo room next.body (end + next.records) undoing → ⊥

-- Why a block is not handed over that may not go: Imaging where an image is being written, as that
-- may cover it, and Full where none is.
abbrev pub IsWhyNone : Room → Refusal → Type 0
IsWhyNone room Refusal.Imaging = room.image_end ≢ None
IsWhyNone room Refusal.Full = room.image_end ≡ None
IsWhyNone room e = ⊥

-- How many records the undoing takes at most behind the next block, where that may be handed over;
-- as before, where no record waits.
abbrev pub MayHandOver : (pending : List Record) (freezes : List ℕ) (end before counted : ℕ) →
    Room → Result ℕ Refusal → Type 0
MayHandOver pending freezes end before counted room (Ok undoing) =
    ((pending ≡ []) × (undoing ≡ before))
    ⊎ GoesOn pending freezes end before counted room undoing
MayHandOver pending freezes end before counted room (Err e) =
    IsWhyNone room e × IsBarred pending freezes end before counted room

-- What a turn tells: what the keeper's turn did; and where that was idle and a block was not handed
-- over, why.
abbrev pub told : Option Refusal → Result Turn Refusal → Result Turn Refusal
told (Some Refusal.Imaging) (Ok Turn.Idle) = Ok Turn.Held
told (Some Refusal.Full) (Ok Turn.Idle) = Err Refusal.Full
told barred turned = turned
