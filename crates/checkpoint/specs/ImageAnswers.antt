-- When each answer of a call on images comes, and what it leaves of a keeper.
use Rattle.std.specs.Prelude.{◌≡◌, ◌≢◌, ◌↔◌, ℕ, ◌-◌, ◌≤◌, max, Bool, true, false, IsTrue, [], ◌∷◌}
use Rattle.std.specs.Prelude.{length}
use Rattle.std.specs.Prelude.{Vec, Result, Ok, Err}
use Rattle.std.specs.declared.alloc.Global.{Global}
use Rattle.calls.specs.declared.refusal.Refusal.{Refusal}
use Rattle.gate_block.specs.declared.area.Area.{Area}
use Rattle.gate_block.specs.Area.{has_failed, size_of, offset_of}
use Rattle.records.specs.declared.block.Image.{Image}
use Rattle.checkpoint.specs.declared.laying.Laying.{Laying}
use Rattle.checkpoint.specs.declared.stage.Ending.{Ending}
use Rattle.checkpoint.specs.declared.stage.Stage.{Stage}
use Rattle.checkpoint.specs.Imaging.{IsOther, IsTooLong, IsSameImage, IsWritten, left_of}
use Rattle.checkpoint.specs.Imaging.{IsAwaited, IsHere, IsAwaitedElse}
use Rattle.checkpoint.specs.Keepers.{KeeperState}

-- the other area, with nothing laid in it
pub record IsStarted (area began : Area) : Type 0 where
  pub other : IsOther area began
  pub offset : offset_of began ≡ 0
  pub fine : has_failed began ≡ false

-- an end is held from here on; or nothing changes
abbrev pub HoldAnswers : {D : Type 0} → KeeperState D → Ending → KeeperState D →
    Result (Unit {0}) Refusal → Type 0
HoldAnswers k e l (Ok done) =
    (k.failed ≡ false) × (k.stage ≡ Stage.Idle) × (l ≡ record k { stage = Stage.Awaited e })
HoldAnswers k e l (Err Refusal.Failed) = (k.failed ≡ true) × (l ≡ k)
HoldAnswers k e l (Err Refusal.Imaging) =
    (k.failed ≡ false) × (k.stage ≢ Stage.Idle) × (l ≡ k)
HoldAnswers k e l (Err r) = ⊥

-- whether the image is the one that is awaited
abbrev pub AskAnswers : Stage → Image → Result (Unit {0}) Refusal → Type 0
AskAnswers stage image (Ok done) = IsAwaited stage image
AskAnswers stage image (Err Refusal.Unfinished) = stage ≡ Stage.Idle
AskAnswers stage image (Err Refusal.Imaging) = IsHere stage
AskAnswers stage image (Err Refusal.BadArg) = IsAwaitedElse stage image
AskAnswers stage image (Err e) = ⊥

-- the image is laid into the other area from here on, where so many bytes behind it stay free
abbrev pub Begins : {D : Type 0} → KeeperState D → Image → ℕ → KeeperState D → Type 0
Begins k image behind l = ¬ IsTooLong (size_of k.area - behind) image.blocks.items
    × ((other : Area) × IsStarted k.area other ×
    (l ≡ record k { stage = Stage.Laid (record { area = other; image = image }) }))

-- the image that is awaited begins; or it is too long, with so many bytes behind it, and its end no
-- longer held; or nothing changes
abbrev pub BeginAnswers : {D : Type 0} → KeeperState D → Image → ℕ → KeeperState D →
    Result (Unit {0}) Refusal → Type 0
BeginAnswers k image behind l (Ok done) =
    (k.failed ≡ false) × IsAwaited k.stage image × Begins k image behind l
BeginAnswers k image behind l (Err Refusal.Failed) = (k.failed ≡ true) × (l ≡ k)
BeginAnswers k image behind l (Err Refusal.Full) =
    (k.failed ≡ false) × IsAwaited k.stage image ×
    IsTooLong (size_of k.area - behind) image.blocks.items × (l ≡ record k { stage = Stage.Idle })
BeginAnswers k image behind l (Err e) =
    (k.failed ≡ false) × AskAnswers k.stage image (Err e) × (l ≡ k)

-- the next block of an image was written; more tells whether another one is left
pub record IsOneFewer (w v : Laying) (more : Bool) : Type 0 where
  pub block : Vec ℕ Global
  pub next : left_of w ≡ block ∷ left_of v
  pub tells : IsTrue more ↔ (1 ≤ length (left_of v))
  pub same : IsSameImage w v

-- none was written
pub record IsAsMany (w v : Laying) : Type 0 where
  pub left : left_of v ≡ left_of w
  pub same : IsSameImage w v

-- the next block is written; or nothing changes; or the disk fails
abbrev pub PieceAnswers : {D : Type 0} → KeeperState D → Type 0 → KeeperState D →
    Result Bool Refusal → Type 0
PieceAnswers k is_risen l (Ok more) =
    (k.failed ≡ false) × ((w v : Laying) × (k.stage ≡ Stage.Laid w) × IsOneFewer w v more ×
    (l ≡ record k { disk = l.disk; stage = Stage.Laid v }))
PieceAnswers k is_risen l (Err Refusal.Failed) = (k.failed ≡ true) × (l ≡ k)
PieceAnswers k is_risen l (Err Refusal.Fault) =
    (k.failed ≡ false) × is_risen ×
    ((w v : Laying) × (k.stage ≡ Stage.Laid w) × IsAsMany w v ×
    (l ≡ record k { disk = l.disk; failed = true; stage = Stage.Laid v }))
PieceAnswers k is_risen l (Err e) = ⊥

-- the area of an image that is all written is the one in use; or the disk fails
abbrev pub PickAnswers : {D : Type 0} → KeeperState D → Laying → Type 0 → KeeperState D →
    Result ℕ Refusal → Type 0
PickAnswers k w is_risen l (Ok mark) =
    (mark ≡ max k.mark w.image.place) ×
    (l ≡ record k {
      disk = l.disk;
      area = w.area;
      mark = mark;
      covered = w.image.end;
      stage = Stage.Idle;
    })
PickAnswers k w is_risen l (Err Refusal.Fault) =
    is_risen × (l ≡ record k { disk = l.disk; failed = true; stage = Stage.Idle })
PickAnswers k w is_risen l (Err e) = ⊥

-- the image is the store; or nothing changes; or the disk fails, and no image is being written
abbrev pub FlipAnswers : {D : Type 0} → KeeperState D → Type 0 → KeeperState D → Result ℕ Refusal →
    Type 0
FlipAnswers k is_risen l (Err Refusal.Failed) = (k.failed ≡ true) × (l ≡ k)
FlipAnswers k is_risen l (Err Refusal.Unfinished) =
    (k.failed ≡ false) × ¬ IsWritten k.stage × (l ≡ k)
FlipAnswers k is_risen l r = (k.failed ≡ false) ×
    ((w : Laying) × (k.stage ≡ Stage.Laid w) × (left_of w ≡ []) × PickAnswers k w is_risen l r)
