-- One step of a world, with its answer: what the book, the keeper and the mark answer, and what
-- they leave.
use Rattle.std.specs.Prelude.{◌≡◌, ◌≢◌, ◌⊎◌, ℕ, ◌+◌, ◌-◌, ◌^◌, ◌<◌, ◌≤◌, min, Bool, List, [], ◌++◌}
use Rattle.std.specs.Prelude.{length, Result, Ok, Err, None}
use Rattle.std.specs.List.{sum_by}
use Rattle.calls.specs.declared.refusal.Refusal.{Refusal}
use Rattle.disk_model.specs.Disk.{Rises}
use Rattle.gate_block.specs.Area.{size_of, offset_of}
use Rattle.records.specs.declared.block.Block.{Block}
use Rattle.records.specs.declared.block.Image.{Image}
use Rattle.images.specs.Gathers.{GatherState, Repeats, Packs}
use Rattle.txn.specs.Books.{CutAnswers}
use Rattle.txn.specs.Freezing.{BookGathers, FreezeAnswers}
use Rattle.txn.specs.Undoings.{undo_count}
use Rattle.checkpoint.specs.Imaging.{HasPiece, end_of}
use Rattle.checkpoint.specs.ImageAnswers.{BeginAnswers, PieceAnswers}
use Rattle.checkpoint.specs.ImageAnswers.{FlipAnswers}
use Rattle.checkpoint.specs.declared.turn.Turn.{Turn}
use Rattle.checkpoint.specs.Keepers.{KeeperState, IsPast, TurnAnswers}
use Rattle.replay.specs.Undoing.{blocks_len}
use Rattle.engine.specs.declared.room.Room.{Room}
use Rattle.engine.specs.Gatherings.{IsHeld, unless_outrun}
use Rattle.engine.specs.Rooms.{MayHandOver}
use Rattle.world.specs.declared.step.Step.{Step}
use Rattle.world.specs.declared.step.Answer.{Answer}
use Rattle.world.specs.Pasts.{CoreStep, Draws, outcome, alone}
use Rattle.txn.specs.Books.{NamedBook}
use Rattle.engine.specs.Marks.{mark_behind, mark_flipped}
use Rattle.images.specs.Gathers.{nothing_gathered}

-- All that a world is: its book, what is gathered of it, its keeper, the blocks in transit, the
-- mark, the next number, and how many records the undoing takes, at most, of what was live behind
-- the last block that was handed over, and of what was live at the newest freeze.
pub record Whole (D : Type 0) : Type 0 where
  pub book : NamedBook
  pub gather : GatherState
  pub keeper : KeeperState D
  pub transit : List Block
  pub mark : ℕ
  pub next : ℕ
  pub undoing : ℕ
  pub frozen : ℕ

-- what is known of the undoing stays
abbrev pub IsUndoneAlike : {D : Type 0} → Whole D → Whole D → Type 0
IsUndoneAlike old new = (new.undoing ≡ old.undoing) × (new.frozen ≡ old.frozen)

-- ---- what is handed over

-- how many bytes blocks take in an area, but for the closed gate behind the last
abbrev pub transit_len : List Block → ℕ
transit_len blocks = sum_by (λ b. length b.bytes.items - 1) blocks

-- the room behind the blocks of the area and those in transit
pub record IsRoomPast {D : Type 0} (w : Whole D) (room : Room) : Type 0 where
  pub free : room.free ≡ size_of w.keeper.area - (offset_of w.keeper.area + transit_len w.transit)
  pub covered : room.covered ≡ w.keeper.covered
  pub image_end : room.image_end ≡ end_of w.keeper.stage

-- how many records the undoing takes behind what was handed over, if anything was
abbrev pub known_behind : Result Bool Refusal → ℕ → ℕ → ℕ
known_behind (Ok handed) behind before = behind
known_behind (Err e) behind before = before

-- Where the next block may go, the book hands it over; where it may not, nothing changes.
abbrev pub HandsOver : {D : Type 0} → Result ℕ Refusal → Whole D → Answer → Whole D → Type 0
HandsOver (Ok behind) old a new =
    (cut : Result Bool Refusal) × (a ≡ outcome Answer.Cut cut) ×
    CutAnswers old.book (λ bs. new.transit ≡ old.transit ++ bs) (4 ≤ length old.transit) cut
    new.book × (new.undoing ≡ known_behind cut behind old.undoing)
HandsOver (Err e) old a new =
    (a ≡ Answer.Refused e) × (new.book ≡ old.book) × (new.transit ≡ old.transit) ×
    (new.undoing ≡ old.undoing)

-- A cut is the book's, where the undoing behind the next block has room.
pub record IsCut {D : Type 0} (old : Whole D) (a : Answer) (new : Whole D) : Type 0 where
  pub room : Room
  pub is_room : IsRoomPast old room
  pub behind : Result ℕ Refusal
  pub may : MayHandOver old.book.pending old.book.freezes old.book.end old.undoing
      (undo_count old.book.state) room behind
  pub hands : HandsOver behind old a new
  pub gather : new.gather ≡ old.gather
  pub keeper : new.keeper ≡ old.keeper
  pub mark : new.mark ≡ old.mark
  pub next : new.next ≡ old.next
  pub frozen : new.frozen ≡ old.frozen

-- ---- what is brought to the disk

-- A turn is the keeper's, of the blocks in transit. The book, what is gathered and the next number
-- stay.
pub record IsTurn {D : Type 0} (fault_count : D → ℕ) (old : Whole D) (a : Answer)
    (new : Whole D) : Type 0 where
  pub turned : Result Turn Refusal
  pub answer : a ≡ outcome Answer.Turned turned
  pub answers :
      TurnAnswers old.keeper.held (λ bs. old.transit ≡ bs ++ new.transit) (old.transit ≡ [])
      old.keeper.failed old.keeper.mark
      (λ b. b.end ≤ old.keeper.covered) (λ b. IsPast old.keeper.stage b.end)
      (λ b. size_of old.keeper.area < offset_of old.keeper.area + length b.bytes.items)
      ((new.keeper.area ≡ old.keeper.area) × (new.keeper.disk ≡ old.keeper.disk))
      (Rises (fault_count old.keeper.disk) (fault_count new.keeper.disk))
      turned new.keeper.held new.keeper.mark new.keeper.failed
  pub book : new.book ≡ old.book
  pub gather : new.gather ≡ old.gather
  pub mark : new.mark ≡ mark_behind old.mark turned
  pub next : new.next ≡ old.next
  pub alike : IsUndoneAlike old new

-- ---- what is gathered for an image

-- What the book handed over is repeated on the copies, as far as there is memory; where the book
-- refused, there is nothing to repeat.
abbrev pub IsRepeated : Result Bool Refusal → GatherState → Answer → GatherState → Type 0
IsRepeated (Ok more) g a h = Repeats g h ×
    (((a ≡ Answer.Gathered more) × (h.effects ≡ [])) ⊎ (a ≡ Answer.Refused Refusal.NoMemory))
IsRepeated (Err e) g a h = (a ≡ Answer.Refused e) × (h ≡ unless_outrun g.frozen e g)

-- A gather is the book's, and then what was handed over is repeated.
pub record IsGather {D : Type 0} (old : Whole D) (a : Answer) (new : Whole D) : Type 0 where
  pub gathered : Result Bool Refusal
  pub taken : GatherState
  pub gathers : BookGathers (λ v. v) old.book old.gather gathered new.book taken
  pub repeats : IsRepeated gathered taken a new.gather
  pub keeper : new.keeper ≡ old.keeper
  pub transit : new.transit ≡ old.transit
  pub mark : new.mark ≡ old.mark
  pub next : new.next ≡ old.next
  pub alike : IsUndoneAlike old new

-- how many records the undoing takes of what was live at the newest freeze
abbrev pub frozen_behind : Answer → ℕ → ℕ → ℕ
frozen_behind Answer.Frozen counted before = counted
frozen_behind a counted before = before

-- A freeze is the book's, and then the end of the image is held.
pub record IsFreeze {D : Type 0} (old : Whole D) (a : Answer) (new : Whole D) : Type 0 where
  pub frozen : Result (Unit {0}) Refusal
  pub taken : GatherState
  pub froze : FreezeAnswers (λ v. v) old.book old.gather frozen new.book taken
  pub held : Result (Unit {0}) Refusal
  pub holds : IsHeld frozen old.keeper taken held new.keeper new.gather
  pub answer : a ≡ outcome (alone Answer.Frozen) held
  pub transit : new.transit ≡ old.transit
  pub mark : new.mark ≡ old.mark
  pub next : new.next ≡ old.next
  pub undoing : new.undoing ≡ old.undoing
  pub counted : new.frozen ≡ frozen_behind a (undo_count new.book.state) old.frozen

-- so many bytes have so many records of an undoing in blocks, as far as a u64 can tell
abbrev pub undoing_len : ℕ → ℕ
undoing_len count = min (blocks_len count) (2 ^ 64 - 1)

-- The image of what is frozen is packed, and begun by the keeper with room for the undoing behind
-- it, and nothing is gathered then. It is refused where nothing is frozen, and without memory,
-- which leaves what is repeated.
abbrev pub IsPacked : {D : Type 0} → KeeperState D → GatherState → ℕ → Answer → KeeperState D →
    GatherState → Type 0
IsPacked k g frozen a l h =
    ((g.frozen ≡ None) × (a ≡ Answer.Refused Refusal.Unfinished) × (l ≡ k) × (h ≡ g))
    ⊎ ((g.frozen ≢ None) × (a ≡ Answer.Refused Refusal.NoMemory) × (l ≡ k) × Repeats g h)
    ⊎ ((image : Image) × Packs g image × ((begun : Result (Unit {0}) Refusal) ×
    BeginAnswers k image (undoing_len frozen) l begun × (a ≡ outcome (alone Answer.Packed) begun)) ×
    (h ≡ nothing_gathered))

pub record IsPack {D : Type 0} (old : Whole D) (a : Answer) (new : Whole D) : Type 0 where
  pub packed : IsPacked old.keeper old.gather old.frozen a new.keeper new.gather
  pub book : new.book ≡ old.book
  pub transit : new.transit ≡ old.transit
  pub mark : new.mark ≡ old.mark
  pub next : new.next ≡ old.next
  pub alike : IsUndoneAlike old new

-- A piece is the keeper's where one is left, and else refused so.
abbrev pub IsPieced : {D : Type 0} → (D → ℕ) → KeeperState D → Answer → KeeperState D → Type 0
IsPieced fault_count k a l =
    (HasPiece k.stage × ((laid : Result Bool Refusal) ×
    PieceAnswers k (Rises (fault_count k.disk) (fault_count l.disk)) l laid ×
    (a ≡ outcome Answer.Laid laid)))
    ⊎ (¬ HasPiece k.stage × (a ≡ Answer.Refused Refusal.Unfinished) × (l ≡ k))

pub record IsPiece {D : Type 0} (fault_count : D → ℕ) (old : Whole D) (a : Answer)
    (new : Whole D) : Type 0 where
  pub pieced : IsPieced fault_count old.keeper a new.keeper
  pub book : new.book ≡ old.book
  pub gather : new.gather ≡ old.gather
  pub transit : new.transit ≡ old.transit
  pub mark : new.mark ≡ old.mark
  pub next : new.next ≡ old.next
  pub alike : IsUndoneAlike old new

-- A flip is the keeper's.
pub record IsFlip {D : Type 0} (fault_count : D → ℕ) (old : Whole D) (a : Answer)
    (new : Whole D) : Type 0 where
  pub flipped : Result ℕ Refusal
  pub answers : FlipAnswers old.keeper
      (Rises (fault_count old.keeper.disk) (fault_count new.keeper.disk)) new.keeper flipped
  pub answer : a ≡ outcome Answer.Flipped flipped
  pub book : new.book ≡ old.book
  pub gather : new.gather ≡ old.gather
  pub transit : new.transit ≡ old.transit
  pub mark : new.mark ≡ mark_flipped old.mark flipped
  pub next : new.next ≡ old.next
  pub alike : IsUndoneAlike old new

-- The step, with its answer, leads from one world to another.
abbrev pub Moves : {D : Type 0} → (D → ℕ) → Whole D → Step × Answer → Whole D → Type 0
Moves fault_count old (Step.Cut, a) new = IsCut old a new
Moves fault_count old (Step.Turn, a) new = IsTurn fault_count old a new
Moves fault_count old (Step.Gather, a) new = IsGather old a new
Moves fault_count old (Step.Freeze, a) new = IsFreeze old a new
Moves fault_count old (Step.Pack, a) new = IsPack old a new
Moves fault_count old (Step.Piece, a) new = IsPiece fault_count old a new
Moves fault_count old (Step.Flip, a) new = IsFlip fault_count old a new
Moves fault_count old x new =
    CoreStep old.book old.transit old.mark x new.book new.transit
    × Draws old.next x new.next × (new.mark ≡ old.mark) × (new.keeper ≡ old.keeper)
    × (new.gather ≡ old.gather) × IsUndoneAlike old new
