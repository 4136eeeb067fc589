-- What a keeper has received since it was opened, and what its disk holds of that. No book is
-- named.
use Rattle.std.specs.Prelude.{◌≡◌, ◌≢◌, ◌⊎◌, ℕ, ◌+◌, ◌<◌, ◌≤◌, false, List, [], ◌∷◌, ◌++◌, length}
use Rattle.std.specs.Prelude.{map, All, Contains, None, Result, Ok, Err}
use Rattle.std.specs.List.{AllByRecursion}
use mathlib.Core.List.{IsPrefix}
use Rattle.calls.specs.declared.format.Format.{Format}
use Rattle.calls.specs.Contents.{Collection}
use Rattle.calls.specs.declared.refusal.Refusal.{Refusal}
use Rattle.disk_model.specs.Disk.{LeavesOnly}
use Rattle.disk_model.specs.declared.disk.Disk.{Ghosts}
use Rattle.gate_block.specs.declared.area.Area.{Area}
use Rattle.records.specs.declared.record.Record.{Record}
use Rattle.records.specs.Records.{spelling, IsRecord}
use Rattle.records.specs.Acts.{places}
use Rattle.records.specs.declared.block.Block.{Block}
use Rattle.records.specs.declared.block.Image.{Image}
use Rattle.records.specs.Packings.{AreWhole}
use Rattle.replay.specs.Journals.{records_in}
use Rattle.replay.specs.Steps.{State}
use Rattle.checkpoint.specs.declared.laying.Laying.{Laying}
use Rattle.checkpoint.specs.declared.stage.Ending.{Ending}
use Rattle.checkpoint.specs.declared.stage.Stage.{Stage}
use Rattle.checkpoint.specs.Imaging.{IsOther, IsBeingLaid}
use Rattle.std.specs.Option.{option_to_list}
use Rattle.checkpoint.specs.Keepers.{KeeperState}
use Rattle.records.specs.Carried.{Carries}
use Rattle.checkpoint.specs.Stored.{StandIn}
use Rattle.checkpoint.specs.DiskHeads.{IsInUse}
use Rattle.checkpoint.specs.Crash.{YieldsUpTo}

-- An image that was begun: the records that it covers, and its own ones, block by block.
pub record BegunImage : Type 0 where
  pub covered : List Record
  pub blocks : List (List Record)

-- The image has these blocks, and tells how many records, and how many that commit something, it
-- covers.
pub record IsImageFor (image : Image) (begun : BegunImage) : Type 0 where
  pub whole : AreWhole image.blocks.items begun.blocks
  pub end : image.end ≡ length begun.covered
  pub place : image.place ≡ places begun.covered

-- These are the images that were begun, each with what it covers.
abbrev pub AreImagesFor : List Image → List BegunImage → Type 0
AreImagesFor [] [] = Unit {0}
AreImagesFor (image ∷ images) (b ∷ begun) = IsImageFor image b × AreImagesFor images begun
AreImagesFor images begun = ⊥

-- No block, of those that begin behind so many records, has records from both sides of the LSN.
abbrev pub IsApart : (front : ℕ) → List (List Record) → (lsn : ℕ) → Type 0
IsApart front [] lsn = Unit {0}
IsApart front (rs ∷ groups) lsn =
    ((lsn ≤ front) ⊎ (front + length rs ≤ lsn))
    × IsApart (front + length rs) groups lsn

-- No block has records from both sides of one of the LSNs.
abbrev pub Uncrossed : (freezes : List ℕ) → List (List Record) → Type 0
Uncrossed freezes groups = All (λ p. IsApart 0 groups p) freezes

-- An end is held. It is a LSN at which the book was frozen, and no record that is kept is past it:
-- so many are kept by the area in use.
pub record IsHolding (freezes : List ℕ) (stored : ℕ) (ending : Ending) : Type 0 where
  pub frozen : Contains freezes ending.end
  pub ahead : stored ≤ ending.end

-- The image in progress is one of those that were begun. So many records are kept by the area in
-- use.
pub record IsImaging {D : Type 0} (seen : D → List ℕ) (format : Format) (start : List Collection)
    (wear : ℕ)
    (records : List Record) (now : State) (images : List BegunImage) (disk : D) (area : Area)
    (stored : ℕ) (laying : Laying) : Type 0 where
  -- the other area, into which it is laid
  pub other : IsOther area laying.area
  -- the image, and what it stands for
  pub image : BegunImage
  pub begun : Contains images image
  pub some : image.blocks ≢ []
  pub stands : StandIn format start wear records now image.blocks image.covered
  pub end : laying.image.end ≡ length image.covered
  pub place : laying.image.place ≡ places image.covered
  -- what the disk holds of it
  pub laid : IsBeingLaid laying (seen disk) (map spelling image.blocks)
  -- no record that is kept is past it
  pub ahead : stored ≤ laying.image.end

-- The keeper was opened over a content with no live transaction, with this wear, and has received
-- these blocks since, the held one last. Their records begin all records of the book's history so
-- far, which lead to the state now. The book was frozen at these LSNs, where no block crosses, and
-- these images were begun, each at one of them. A stop now leaves what `Yields` says of the
-- transactions that the mark tells.
pub record HasReceived {D : Type 0} (seen : D → List ℕ) (may_leave : D → List ℕ → Type 0)
    (format : Format) (start : List Collection) (wear : ℕ) (records : List Record) (now : State)
    (freezes : List ℕ) (images : List BegunImage) (received : List Block)
    (keeper : KeeperState D) : Type 0 where
  pub good : AllByRecursion (IsRecord None) records
  -- the blocks that were brought, and the held one, with their records, and those that are not
  -- received
  pub brought : List Block
  pub parts : received ≡ brought ++ option_to_list keeper.held
  pub groups : List (List Record)
  pub carried : Carries 0 0 brought groups
  pub last : List (List Record)
  pub held : Carries (length (records_in groups)) (places (records_in groups))
      (option_to_list keeper.held) last
  pub rest : List Record
  pub begins : records ≡ records_in groups ++ (records_in last ++ rest)
  pub uncrossed : Uncrossed freezes (groups ++ last)
  pub frozen : All (λ i. Contains freezes (length i.covered)) images
  -- what the area in use held when it was picked, and the records that this covers: none where it
  -- was opened, and else it is an image
  pub old : List (List Record)
  pub covered : List Record
  pub stands : StandIn format start wear records now old covered
  pub source : (covered ≡ []) ⊎ Contains images (record { covered = covered; blocks = old })
  -- the blocks that the keeper appended or met a fault on since
  pub kept : List (List Record)
  pub later : List Record
  pub split : stands.since ≡ records_in kept ++ later
  -- it has all records of the blocks that were brought. Where it has more, the blocks behind are
  -- covered
  pub reaches : length (records_in groups) ≤ length covered + length (records_in kept)
  pub even : length (records_in groups) < length covered + length (records_in kept) → kept ≡ []
  pub covers : keeper.covered ≡ length covered
  -- the mark never passes what is kept
  pub marked : keeper.mark ≤ places covered + places (records_in kept)
  -- what a stop now may leave
  pub stop : (c : List ℕ) → may_leave keeper.disk c →
      YieldsUpTo start records keeper.mark c
  -- until a fault, the area holds these blocks, and an end is held, or an image being laid beside
  -- it
  pub in_use : keeper.failed ≡ false →
      IsInUse seen may_leave format keeper.area keeper.disk (old ++ kept)
  pub holding : keeper.failed ≡ false → (e : Ending) → keeper.stage ≡ Stage.Awaited e →
      IsHolding freezes (length covered + length (records_in kept)) e
  pub imaging : keeper.failed ≡ false → (l : Laying) → keeper.stage ≡ Stage.Laid l →
      IsImaging seen format start wear records now images keeper.disk keeper.area
      (length covered + length (records_in kept)) l

-- ---- what each call of a keeper keeps

-- Whatever a stop at any moment of the call might have left is sound, and stands for a content that
-- some beginning of what the records commit gives, which holds what the mark told before the call.
abbrev pub LeavesKept : {D : Type 0} → Ghosts D → List Collection → List Record → KeeperState D →
    KeeperState D → Type 0
LeavesKept g start records k l = LeavesOnly g.moment g.left_since k.disk l.disk
    (YieldsUpTo start records k.mark)

-- The keeper has received the blocks that it took from its inbox too. They carry records that go on
-- with those before, and no block crosses a LSN at which the book was frozen.
abbrev pub TurnKeeps : {D : Type 0} → Ghosts D → (receives : List Block → Type 0) →
    KeeperState D → KeeperState D → Type 0
TurnKeeps g receives k l =
    (format : Format) (start : List Collection) (wear : ℕ) (records : List Record) (now : State)
    (freezes : List ℕ)
    (images : List BegunImage) (received more : List Block) (groups : List (List Record)) →
    receives more → Carries 0 0 (received ++ more) groups → IsPrefix (records_in groups) records →
    Uncrossed freezes groups →
    HasReceived g.seen g.may_leave format start wear records now freezes images received k →
    HasReceived g.seen g.may_leave format start wear records now freezes images (received ++ more) l
    × LeavesKept g start records k l

-- the LSNs, where this one was held, or refused
abbrev pub held_with : ℕ → List ℕ → Result (Unit {0}) Refusal → List ℕ
held_with end freezes (Ok done) = end ∷ freezes
held_with end freezes (Err e) = freezes

-- An end may be held that nothing that was received, and nothing that the area in use covers, is
-- past.
abbrev pub HoldKeeps : {D : Type 0} → Ghosts D → (end : ℕ) → Result (Unit {0}) Refusal →
    KeeperState D → KeeperState D → Type 0
HoldKeeps g end r k l =
    (format : Format) (start : List Collection) (wear : ℕ) (records : List Record) (now : State)
    (freezes : List ℕ)
    (images : List BegunImage) (received : List Block) (groups : List (List Record)) →
    Carries 0 0 received groups → IsPrefix (records_in groups) records →
    length (records_in groups) ≤ end → k.covered ≤ end →
    HasReceived g.seen g.may_leave format start wear records now freezes images received k →
    HasReceived g.seen g.may_leave format start wear records now (held_with end freezes r) images
    received l
    × LeavesKept g start records k l

-- the images that were begun, where this one was, or was refused
abbrev pub begun_with : BegunImage → List BegunImage → Result (Unit {0}) Refusal → List BegunImage
begun_with image images (Ok done) = image ∷ images
begun_with image images (Err e) = images

-- An image may be begun that stands for a beginning of the records.
abbrev pub BeginKeeps : {D : Type 0} → Ghosts D → Image → Result (Unit {0}) Refusal →
    KeeperState D → KeeperState D → Type 0
BeginKeeps g image r k l =
    (format : Format) (start : List Collection) (wear : ℕ) (records : List Record) (now : State)
    (freezes : List ℕ)
    (images : List BegunImage) (received : List Block) (begun : BegunImage) →
    IsImageFor image begun → StandIn format start wear records now begun.blocks begun.covered →
    HasReceived g.seen g.may_leave format start wear records now freezes images received k →
    HasReceived g.seen g.may_leave format start wear records now freezes (begun_with begun images r)
    received l
    × LeavesKept g start records k l

-- A piece of an image is written, or the image becomes the store: nothing is received.
abbrev pub ImageKeeps : {D : Type 0} → Ghosts D → KeeperState D → KeeperState D → Type 0
ImageKeeps g k l =
    (format : Format) (start : List Collection) (wear : ℕ) (records : List Record) (now : State)
    (freezes : List ℕ)
    (images : List BegunImage) (received : List Block) →
    HasReceived g.seen g.may_leave format start wear records now freezes images received k →
    HasReceived g.seen g.may_leave format start wear records now freezes images received l
    × LeavesKept g start records k l
