-- What room a store takes and has.
use Rattle.std.specs.Prelude.{◌≡◌, ◌↔◌, ℕ, ◌+◌, ◌-◌, ◌^◌, min, IsTrue, List, length, Vec}
use Rattle.std.specs.declared.alloc.Global.{Global}
use Rattle.gate_block.specs.declared.area.Area.{Area}
use Rattle.gate_block.specs.Row.{row}
use Rattle.gate_block.specs.Area.{base_of, size_of, offset_of}
use Rattle.gate_block.specs.Layout.{areas_at}
use Rattle.records.specs.declared.record.Record.{Record}
use Rattle.images.specs.Images.{IsPackedImage}
use Rattle.checkpoint.specs.Imaging.{bodies_of}
use Rattle.replay.specs.Steps.{State}
use Rattle.replay.specs.Undoing.{blocks_len}
use Rattle.recovery.specs.declared.report.Report.{Report}
use Rattle.recovery.specs.declared.report.Survey.{Survey}

-- so many bytes take these blocks, with the closed gate behind them; more than a word holds are
-- told as the greatest one
abbrev pub image_len : List (Vec ℕ Global) → ℕ
image_len blocks = min (length (row (bodies_of blocks)) + 1) (2 ^ 64 - 1)

-- Blocks of an image of the state are so long.
pub record IsImageLen (next : ℕ) (state : State) (len : ℕ) : Type 0 where
  pub blocks : List (Vec ℕ Global)
  pub packed : IsPackedImage (λ v. v) next state blocks
  pub len_is : len ≡ image_len blocks

-- The numbers are those of the store that was found in the area, with the records that undo what
-- was live in it, the state behind them, and so many bytes of its image: image, journal and the
-- closed gate are what is used.
pub record IsSurvey (area : Area) (undone : State) (next : ℕ) (undoing : List Record) (image : ℕ)
    (report : Report) (survey : Survey) : Type 0 where
  pub format : survey.format ≡ undone.format
  pub area_is : survey.area ≡ size_of area
  pub first : IsTrue survey.first ↔ (base_of area ≡ areas_at)
  pub used : survey.used ≡ offset_of area + 1
  pub image_is : survey.image ≡ image
  pub journal : survey.image + survey.journal + 1 ≡ survey.used
  pub checkpoint : IsImageLen next undone survey.checkpoint
  pub undoing_is : survey.undoing ≡ min (blocks_len (length undoing)) (2 ^ 64 - 1)
  pub next_is : survey.next ≡ next
  pub wear : survey.wear ≡ undone.wear
  pub report_is : survey.report ≡ report
