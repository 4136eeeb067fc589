-- What an area was read to hold.
use Rattle.std.specs.Prelude.{◌≡◌, ℕ, List, [], ◌∷◌, ◌++◌, length, map, Bool, true, false, None}
use Rattle.gate_block.specs.Row.{row, IsRow, part}
use Rattle.calls.specs.declared.format.Format.{Format}
use Rattle.records.specs.declared.record.Record.{Record}
use Rattle.records.specs.Records.{spelling, AreRecords}
use Rattle.replay.specs.declared.stage.Stage.{Stage}
use Rattle.replay.specs.Journals.{IsHeader, records_in}
use Rattle.replay.specs.Reading.{AreAccepted}
use Rattle.replay.specs.Steps.{State}
use Rattle.recovery.specs.Openings.{IsRead}

-- The area of a disk of this version is a row of blocks up to this offset, of an image and a
-- journal of so many records, which lead to the state; the number is above every number that they
-- enter.
pub record IsLoaded (version : Format) (base size : ℕ) (bytes : List ℕ) (state : State)
    (next count place : ℕ) : Type
    0 where
  pub blocks : List (List Record)
  pub is_read : IsRead version base size bytes blocks next state count
  pub offset : place ≡ length (row (map spelling blocks))

-- ---- the image in front of the journal

-- whether the image has not ended at this stage
abbrev pub is_imaging : Stage → Bool
is_imaging (Stage.Journal s count) = false
is_imaging other = true

-- where the image ends behind one more block: there, where it had not ended before that block
abbrev pub image_behind : (imaging : Bool) → (end offset : ℕ) → ℕ
image_behind true end offset = offset
image_behind false end offset = end

-- The image takes the first of the blocks, so many bytes: it ends behind the first block behind
-- which the records are accepted, the one that has the record of its end. What stands behind that
-- block is the journal.
pub record IsImagePart (version : Format) (blocks : List (List Record)) (len : ℕ) : Type 0 where
  pub before : List (List Record)
  pub last : List Record
  pub journal : List (List Record)
  pub are : blocks ≡ before ++ last ∷ journal
  pub next : ℕ
  pub state : State
  pub count : ℕ
  pub ended : AreAccepted version (records_in (before ++ last ∷ [])) next state count
  pub not_before : (n : ℕ) (s : State) (k : ℕ) → AreAccepted version (records_in before) n s k → ⊥
  pub len_is : len ≡ length (row (map spelling (before ++ last ∷ [])))

-- The area of a disk of this version is a row of blocks, whose image takes so many bytes.
pub record StartsWithImage (version : Format) (base size : ℕ) (bytes : List ℕ) (len : ℕ) : Type
    0 where
  pub blocks : List (List Record)
  pub good : AreRecords None (records_in blocks)
  pub row_is : IsRow (map spelling blocks) (part base size bytes)
  pub image : IsImagePart version blocks len

-- So it is of the version that the header tells.
pub record HoldsImage (base size : ℕ) (bytes : List ℕ) (len : ℕ) : Type 0 where
  pub version : Format
  pub header : IsHeader version size bytes
  pub starts : StartsWithImage version base size bytes len
