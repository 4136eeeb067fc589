-- A keeper as contracts see it: what it answers, and what it leaves.
use Rattle.std.specs.Prelude.{◌≡◌, ◌⊎◌, ℕ, ◌+◌, ◌*◌, ◌<◌, max, Bool, true, false, List, [], ◌∷◌}
use Rattle.std.specs.Prelude.{length, Option, Some, None, Result, Ok, Err}
use Rattle.calls.specs.declared.refusal.Refusal.{Refusal}
use Rattle.gate_block.specs.declared.area.Area.{Area}
use Rattle.gate_block.specs.Area.{has_failed, base_of, size_of}
use Rattle.gate_block.specs.Layout.{areas_at}
use Rattle.records.specs.declared.block.Block.{Block}
use Rattle.checkpoint.specs.declared.turn.Turn.{Turn}
use Rattle.checkpoint.specs.declared.stage.Stage.{Stage}
use Rattle.checkpoint.specs.Imaging.{IsBeside}

-- A disk with its area in use, the place up to which commits are kept, a block that was held back,
-- whether the disk has failed, the LSN up to which the image of the area in use covers the records,
-- and how far it is with an image.
pub record KeeperState (D : Type 0) : Type 0 where
  pub disk : D
  pub area : Area
  pub mark : ℕ
  pub held : Option Block
  pub failed : Bool
  pub covered : ℕ
  pub stage : Stage

-- The area is one of the two of a disk of so many bytes, which stand behind its head, one behind
-- the other.
pub record IsOneOfTwo (area : Area) (bytes : ℕ) : Type 0 where
  pub whole : bytes ≡ areas_at + 2 * size_of area
  pub base : (base_of area ≡ areas_at) ⊎ (base_of area ≡ areas_at + size_of area)

-- what holds of every keeper
pub record IsKeeper {D : Type 0} (seen : D → List ℕ) (k : KeeperState D) : Type 0 where
  pub fine : k.failed ≡ false → has_failed k.area ≡ false
  pub one : IsOneOfTwo k.area (length (seen k.disk))
  pub beside : IsBeside k.area k.failed k.stage

-- Nothing was brought to the disk yet.
pub record IsFresh {D : Type 0} (k : KeeperState D) : Type 0 where
  pub unmarked : k.mark ≡ 0
  pub holds_none : k.held ≡ None
  pub fine : k.failed ≡ false
  pub covers_none : k.covered ≡ 0
  pub no_image : k.stage ≡ Stage.Idle

-- The LSN is past the image that is being written: past the end that is held, or the image's.
abbrev pub IsPast : Stage → ℕ → Type 0
IsPast Stage.Idle lsn = ⊥
IsPast (Stage.Awaited e) lsn = e.end < lsn
IsPast (Stage.Laid w) lsn = w.image.end < lsn

-- When a block is appended, and when not: it is kept; it does not fit, is held, and nothing else
-- changed; or the disk fails.
abbrev pub AppendAnswers : Block → ℕ → Type 0 → Type 0 → Type 0 → Result Turn Refusal →
    Option Block → ℕ → Bool → Type 0
AppendAnswers block mark is_full is_same is_risen (Ok (Turn.Kept place)) held next failed =
    (place ≡ max mark block.place) × (next ≡ place) × (held ≡ None) × (failed ≡ false) × ¬ is_full
AppendAnswers block mark is_full is_same is_risen (Err Refusal.Full) held next failed =
    is_full × is_same × (held ≡ Some block) × (next ≡ mark) × (failed ≡ false)
AppendAnswers block mark is_full is_same is_risen (Err Refusal.Fault) held next failed =
    is_risen × (held ≡ None) × (next ≡ mark) × (failed ≡ true) × ¬ is_full
AppendAnswers block mark is_full is_same is_risen r held next failed = ⊥

-- A block that the image of the area in use covers is let go, with nothing else changed; one that
-- is past the image that is being written is held, with nothing else changed; each other one is
-- appended.
abbrev pub BringAnswers : Block → ℕ → Type 0 → Type 0 → Type 0 → Type 0 → Type 0 →
    Result Turn Refusal → Option Block → ℕ → Bool → Type 0
BringAnswers block mark is_covered is_past is_full is_same is_risen (Ok Turn.Held) held next
    failed = ¬ is_covered × is_past × is_same × (held ≡ Some block) × (next ≡ mark) ×
    (failed ≡ false)
BringAnswers block mark is_covered is_past is_full is_same is_risen (Ok (Turn.Kept place)) held next
    failed =
    (is_covered × is_same × (place ≡ max mark block.place) × (next ≡ place) × (held ≡ None) ×
    (failed ≡ false))
    ⊎ (¬ is_covered × ¬ is_past × AppendAnswers block mark is_full is_same is_risen
    (Ok (Turn.Kept place)) held next failed)
BringAnswers block mark is_covered is_past is_full is_same is_risen r held next failed =
    ¬ is_covered × ¬ is_past × AppendAnswers block mark is_full is_same is_risen r held next failed

-- The block that a turn brings: the held one, and then it receives none; or else the one that it
-- receives.
abbrev pub IsBrought : Option Block → (List Block → Type 0) → Block → Type 0
IsBrought None receives b = receives (b ∷ [])
IsBrought (Some h) receives b = (b ≡ h) × receives []

-- What a turn answers, of the block that it found held, of which lists of blocks it received, and
-- of whether none was there to receive; and what it leaves: held, mark, failed.
abbrev pub TurnAnswers : Option Block → (List Block → Type 0) → Type 0 → Bool → ℕ →
    (Block → Type 0) → (Block → Type 0) → (Block → Type 0) → Type 0 → Type 0 →
    Result Turn Refusal → Option Block → ℕ → Bool → Type 0
TurnAnswers holds receives was_empty failed mark is_covered is_past is_full is_same is_risen
    (Err Refusal.Failed) held next fails =
    (failed ≡ true) × receives [] × is_same × (held ≡ holds) × (next ≡ mark) × (fails ≡ true)
TurnAnswers holds receives was_empty failed mark is_covered is_past is_full is_same is_risen
    (Ok Turn.Idle) held next fails =
    (failed ≡ false) × (holds ≡ None) × receives [] × was_empty × is_same × (held ≡ None) ×
    (next ≡ mark) × (fails ≡ false)
TurnAnswers holds receives was_empty failed mark is_covered is_past is_full is_same is_risen r held
    next fails =
    (failed ≡ false) × ((b : Block) × IsBrought holds receives b ×
    BringAnswers b mark (is_covered b) (is_past b) (is_full b) is_same is_risen r held next
    fails)

-- where the turn kept a block
abbrev pub OnKept : Result Turn Refusal → Type 0 → Type 0
OnKept (Ok (Turn.Kept place)) P = P
OnKept r P = Unit {0}
