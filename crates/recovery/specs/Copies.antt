-- What a copy makes of a store, and why it is refused.
use Rattle.std.specs.Prelude.{◌≡◌, ℕ, ◌+◌, ◌<◌, List, [], length, map, get_or, Vec, None}
use Rattle.std.specs.Prelude.{Result, Ok, Err, cond, nat_lt}
use Rattle.std.specs.List.{AllByRecursion}
use Rattle.std.specs.declared.alloc.Global.{Global}
use Rattle.calls.specs.declared.format.Format.{Format}
use Rattle.calls.specs.declared.refusal.Refusal.{Refusal}
use Rattle.calls.specs.Formats.{max_area, Allows}
use Rattle.calls.specs.Contents.{Collection}
use Rattle.gate_block.specs.Row.{row, IsRow, part}
use Rattle.gate_block.specs.Layout.{base_in_use}
use Rattle.gate_block.specs.Layout.{areas_at, root_at}
use Rattle.records.specs.declared.record.Record.{Record}
use Rattle.records.specs.Records.{spelling, AreRecords}
use Rattle.records.specs.Images.{IsImage}
use Rattle.steps.specs.Machines.{resting}
use Rattle.records.specs.Drafts.{ArePacked}
use Rattle.records.specs.Packings.{AreWhole}
use Rattle.replay.specs.Journals.{IsHeader, StandsFor, records_in}
use Rattle.replay.specs.Steps.{State}
use Rattle.replay.specs.Reading.{IsSound, AreAccepted}
use Rattle.replay.specs.Undoing.{Undo, IsUndoRecord}
use Rattle.recovery.specs.Formatting.{IsHeadOf}
use Rattle.recovery.specs.declared.editing.Edit.{Edit}
use Rattle.recovery.specs.Edits.{edited, CanBeEdited}
use Rattle.recovery.specs.Openings.{IsRead, IsFindRefusal}

-- ---- bytes that are written

-- A head of this version but for its gate, and in the first area, which it picks, a row of these
-- blocks.
pub record IsFilledWith (version : Format) (area : ℕ) (bodies : List (List ℕ))
    (bytes : List ℕ) : Type 0 where
  pub head : IsHeadOf version area bytes
  pub row_is : IsRow bodies (part areas_at area bytes)

-- A head of this version with an open gate, for areas of this size, a root byte that picks the
-- first area, and in it a row of these blocks.
pub record IsStoreOf (version : Format) (area : ℕ) (bodies : List (List ℕ)) (bytes : List ℕ) : Type
    0 where
  pub header : IsHeader version area bytes
  pub root : get_or bytes root_at 0 ≡ 0
  pub row_is : IsRow bodies (part areas_at area bytes)

-- ---- the settled content of a store

-- The blocks are an image in the format of what the store in these bytes holds once all that was
-- live is undone and the edits are made, which all can be: the collections with their items, and
-- the marks of the next number and of the wear, those of an opening. No transaction is live in it.
-- Each block is as full as it can be.
pub record IsImageOf (format : Format) (bytes : List ℕ) (edits : List Edit)
    (image : List (List Record)) : Type 0 where
  -- the head of the store
  pub version : Format
  pub size : ℕ
  pub header : IsHeader version size bytes
  -- what is read of the area in use
  pub blocks : List (List Record)
  pub next : ℕ
  pub state : State
  pub count : ℕ
  pub is_read : IsRead version (base_in_use size bytes) size bytes blocks next state count
  -- what undoes all that was live
  pub undoing : List Record
  pub undone : State
  pub marks : AllByRecursion IsUndoRecord undoing
  pub undo : Undo state undoing undone
  -- the image of what it leads to, with the edits made, and that it is read as that
  pub can : CanBeEdited edits undone.now
  pub later : Allows state.format format
  pub is_image : IsImage format next undone.wear (edited edits undone.now) [] []
      (records_in image)
  pub good : AreRecords None (records_in image)
  pub accepted : AreAccepted format (records_in image) next
      (resting format (edited edits undone.now) undone.wear) 0
  -- its blocks
  pub packed : ArePacked image
  pub not_empty : AllByRecursion (λ records. 0 < length records) image

-- The blocks are whole, and spell such an image.
pub record SpellsImageOf (format : Format) (bytes : List ℕ) (edits : List Edit)
    (blocks : List (Vec ℕ Global)) : Type 0 where
  pub image : List (List Record)
  pub is_image_of : IsImageOf format bytes edits image
  pub whole : AreWhole blocks image

-- ---- a copy

-- the format of a copy, where the area in use is of this one and those of the copy have this size
abbrev pub copied_as : Format → (area : ℕ) → Format
copied_as Format.Two area = Format.Two
copied_as Format.One area = cond (nat_lt (max_area Format.One) area) Format.Two Format.One

-- The blocks spell the image that a copy with areas of this size has, which is of this format.
pub record SpellsCopyOf (format : Format) (bytes : List ℕ) (edits : List Edit) (area : ℕ)
    (blocks : List (Vec ℕ Global)) : Type 0 where
  pub spells : SpellsImageOf format bytes edits blocks
  pub format_is : format ≡ copied_as spells.is_image_of.state.format area

-- The bytes are a copy of the store in the old ones, with these edits and areas of this size: the
-- first area is in use, and holds an image of the settled content of the old store with the edits
-- made, and no journal behind it. They are sound, and stand for what the edits leave of the content
-- that the old ones stand for.
pub record IsCopyOf (old : List ℕ) (edits : List Edit) (area : ℕ) (bytes : List ℕ) : Type 0 where
  pub format : Format
  pub image : List (List Record)
  pub is_image_of : IsImageOf format old edits image
  pub format_is : format ≡ copied_as is_image_of.state.format area
  pub is_store : IsStoreOf format area (map spelling image) bytes
  pub sound : IsSound bytes
  pub stands : (content : List Collection) → StandsFor old content →
      StandsFor bytes (edited edits content)

-- The image of the settled content with the edits made does not fit in an area of this size, with a
-- closed gate behind it.
pub record IsTooLarge (old : List ℕ) (edits : List Edit) (area : ℕ) : Type 0 where
  pub format : Format
  pub image : List (List Record)
  pub is_image_of : IsImageOf format old edits image
  pub over : area < length (row (map spelling image)) + 1

-- Why the settled content could not be had with the edits made: as why a store could not be read,
-- or where an edit is refused so.
abbrev pub IsSettleRefusal : Type 0 → Type 0 → (ℕ → Type 0) → (Refusal → Type 0) → Refusal → Type 0
IsSettleRefusal is_risen no_head is_damaged is_uneditable Refusal.NoSuchCollection =
    is_uneditable Refusal.NoSuchCollection
IsSettleRefusal is_risen no_head is_damaged is_uneditable Refusal.BadName =
    is_uneditable Refusal.BadName
IsSettleRefusal is_risen no_head is_damaged is_uneditable Refusal.TooLong =
    is_uneditable Refusal.TooLong
IsSettleRefusal is_risen no_head is_damaged is_uneditable Refusal.NameTaken =
    is_uneditable Refusal.NameTaken
IsSettleRefusal is_risen no_head is_damaged is_uneditable e =
    IsFindRefusal is_risen no_head is_damaged e

-- When each answer of a copy comes.
abbrev pub IsCopyAnswer : Type 0 → Type 0 → Type 0 → (ℕ → Type 0) → (Refusal → Type 0) → Type 0 →
    Result (Unit {0}) Refusal → Type 0
IsCopyAnswer is_room is_risen no_head is_damaged is_uneditable is_too_large (Ok done) = is_room
IsCopyAnswer is_room is_risen no_head is_damaged is_uneditable is_too_large (Err Refusal.BadArg) =
    is_room → ⊥
IsCopyAnswer is_room is_risen no_head is_damaged is_uneditable is_too_large (Err Refusal.Full) =
    is_room × is_too_large
IsCopyAnswer is_room is_risen no_head is_damaged is_uneditable is_too_large (Err e) =
    is_room × IsSettleRefusal is_risen no_head is_damaged is_uneditable e
