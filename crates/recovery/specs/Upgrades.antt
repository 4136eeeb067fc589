-- What an upgrade makes of a store, and why it is refused.
use Rattle.std.specs.Prelude.{◌≡◌, ◌≢◌, ◌⊎◌, ℕ, List, [], map}
use Rattle.calls.specs.declared.format.Format.{Format}
use Rattle.calls.specs.Contents.{Collection}
use Rattle.disk_model.specs.Disk.{Torn, IsAtRest, LeavesOnly}
use Rattle.disk_model.specs.declared.disk.Disk.{Ghosts}
use Rattle.calls.specs.declared.refusal.Refusal.{Refusal}
use Rattle.records.specs.declared.record.Record.{Record}
use Rattle.records.specs.Records.{spelling}
use Rattle.records.specs.declared.block.Image.{Image}
use Rattle.records.specs.Packings.{AreWhole}
use Rattle.checkpoint.specs.declared.laying.Laying.{Laying}
use Rattle.checkpoint.specs.Stored.{StandIn}
use Rattle.checkpoint.specs.Imaging.{IsOther, HasPlainRoot}
use Rattle.replay.specs.Journals.{IsHeader, StandsFor}
use Rattle.replay.specs.Steps.{State}
use Rattle.replay.specs.Reading.{IsSound}
use Rattle.checkpoint.specs.Keepers.{KeeperState}
use Rattle.checkpoint.specs.Keeping.{BegunImage, HasReceived}
use Rattle.gate_block.specs.declared.area.Area.{Area}
use Rattle.gate_block.specs.Area.{base_of, size_of, bytes_of}
use Rattle.gate_block.specs.Layout.{base_in_use, root_at}
use Rattle.gate_block.specs.Row.{IsRow, SameOutside}
use Rattle.txn.specs.Books.{BookState}
use Rattle.recovery.specs.Openings.{HasNoRoom, IsOpened, book_of}
use Rattle.recovery.specs.Copies.{IsImageOf, IsTooLarge}

-- This area was written, and then the root byte, which picks it: 0 for the first area, 1 for the
-- second. Every other byte of the disk is as it was.
pub record IsFlippedTo (area : Area) (old new : List ℕ) : Type 0 where
  pub laid : List ℕ
  pub beside : SameOutside (base_of area) (size_of area) old laid
  pub root : Torn root_at 1 laid new
  pub picks : base_in_use (size_of area) new ≡ base_of area
  pub plain : HasPlainRoot (base_of area) new

-- A store was opened from the old bytes to those between, in this area. The other area holds the
-- image of its settled content in the second format, with no journal behind it, and is the one in
-- use. The next number and the wear are those of the opening. All else is as the opening left it.
pub record IsRewritten (old : List ℕ) (area : Area) (between new : List ℕ) : Type 0 where
  pub image : List (List Record)
  pub is_image_of : IsImageOf Format.Two old [] image
  pub other : Area
  pub is_other : IsOther area other
  pub row_is : IsRow (map spelling image) (bytes_of other new)
  pub flipped : IsFlippedTo other between new

-- The store in the old bytes was opened. Where what it holds is of the second format, nothing more
-- was written; and else it was rewritten in that format. The head is the one that the old bytes
-- have. The new bytes are sound, and stand for the content that the old ones stand for.
pub record IsUpgraded (old new : List ℕ) : Type 0 where
  -- what was done
  pub book : BookState (List Collection)
  pub area : Area
  pub between : List ℕ
  pub opened : IsOpened old book area between
  pub no_more : book.state.format ≡ Format.Two → new ≡ between
  pub rewritten : book.state.format ≢ Format.Two → IsRewritten old area between new
  -- what stands there then
  pub header : (version : Format) (size : ℕ) → IsHeader version size old →
      IsHeader version size new
  pub sound : IsSound new
  pub format : sound.holds.format ≡ Format.Two
  pub stands : (content : List Collection) → StandsFor old content → StandsFor new content

-- ---- why it is refused

-- The image of the settled content does not fit in an area of the disk, with a closed gate behind
-- it.
pub record HasNoRoomForImage (old : List ℕ) : Type 0 where
  pub version : Format
  pub size : ℕ
  pub header : IsHeader version size old
  pub large : IsTooLarge old [] size

-- There is no room for the records of the undoing, or none for the image.
abbrev pub HasNoRoomToUpgrade : List ℕ → Type 0
HasNoRoomToUpgrade old = HasNoRoom old ⊎ HasNoRoomForImage old

-- ---- what is made of a store whose losers are undone

-- whatever bytes were opened to these, the new ones are theirs in the second format
abbrev pub BringsUp : State → (next : ℕ) → Area → List ℕ → List ℕ → Type 0
BringsUp s next area bytes new = (old : List ℕ) → IsOpened old (book_of s next) area bytes →
    IsUpgraded old new

-- a stop since then leaves sound bytes that stand for the content
abbrev pub KeepsOpened : {D : Type 0} → Ghosts D → State → (next : ℕ) → Area → D → D → Type 0
KeepsOpened g s next area disk new = (old : List ℕ) →
    IsOpened old (book_of s next) area (g.seen disk) → IsAtRest g.seen g.may_leave disk →
    LeavesOnly g.moment g.left_since disk new (λ b. IsSound b × StandsFor b s.now)

-- there is no room for the image of any bytes that were opened to these
abbrev pub HasNoRoomForSettled : State → (next : ℕ) → Area → List ℕ → Type 0
HasNoRoomForSettled s next area bytes = (old : List ℕ) →
    IsOpened old (book_of s next) area bytes → HasNoRoomForImage old

-- ---- the keeper of an upgrade, of which no book is

-- A keeper that was handed nothing since it was opened over this content.
abbrev pub StandsOver : {D : Type 0} → Ghosts D → Format → List Collection → (wear : ℕ) → State →
    KeeperState D → Type 0
StandsOver g format start wear now k = (freezes : List ℕ) × (images : List BegunImage) ×
    HasReceived g.seen g.may_leave format start wear [] now freezes images [] k

-- a stop since the first of two keepers leaves sound bytes that stand for the content
abbrev pub LeavesContent : {D : Type 0} → Ghosts D → List Collection → KeeperState D →
    KeeperState D → Type 0
LeavesContent g start k l = LeavesOnly g.moment g.left_since k.disk l.disk
    (λ b. IsSound b × StandsFor b start)

-- What the first of two keepers stood for, the second one stands for too, and so does each stop in
-- between.
abbrev pub GoesOn : {D : Type 0} → Ghosts D → KeeperState D → KeeperState D → Type 0
GoesOn g k l = (format : Format) (start : List Collection) (wear : ℕ) (now : State) →
    StandsOver g format start wear now k →
    StandsOver g format start wear now l × LeavesContent g start k l

-- So it is where an image was taken that stands for the content.
abbrev pub TakesImage : {D : Type 0} → Ghosts D → Image → KeeperState D → KeeperState D → Type 0
TakesImage g image k l = (format : Format) (start : List Collection) (wear : ℕ) (now : State)
    (blocks : List (List Record)) → AreWhole image.blocks.items blocks →
    StandIn format start wear [] now blocks [] →
    HasReceived g.seen g.may_leave format start wear [] now [] [] [] k →
    StandsOver g format start wear now l × LeavesContent g start k l

-- The keeper's area is the other one from here on, and the root byte picks it.
pub record HasFlipped {D : Type 0} (g : Ghosts D) (k l : KeeperState D) : Type 0 where
  pub is_other : IsOther k.area l.area
  pub flipped : IsFlippedTo l.area (g.seen k.disk) (g.seen l.disk)

-- The keeper's area is the one of the image in progress, and the root byte picks it.
pub record HasFlippedTo {D : Type 0} (g : Ghosts D) (w : Laying) (k l : KeeperState D) : Type
    0 where
  pub base : base_of l.area ≡ base_of w.area
  pub size : size_of l.area ≡ size_of w.area
  pub flipped : IsFlippedTo l.area (g.seen k.disk) (g.seen l.disk)

-- Why an image was not taken: as it is too long, or as the disk failed.
abbrev pub IsTakeRefusal : Type 0 → Type 0 → Refusal → Type 0
IsTakeRefusal is_risen is_long Refusal.Full = is_long
IsTakeRefusal is_risen is_long Refusal.Fault = is_risen
IsTakeRefusal is_risen is_long e = ⊥

-- Why a store that was opened was not brought to the second format.
abbrev pub IsUpgradeRefusal : Type 0 → Type 0 → Refusal → Type 0
IsUpgradeRefusal is_risen is_long Refusal.NoMemory = Unit {0}
IsUpgradeRefusal is_risen is_long e = IsTakeRefusal is_risen is_long e
