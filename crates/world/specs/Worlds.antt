-- The past of a world: a relation between a world and the steps that led to it, which no field
-- stores.
use Rattle.calls.specs.declared.format.Format.{Format}
use Rattle.std.specs.Prelude.{◌≡◌, ℕ, ◌≤◌, List, ◌++◌}
use Rattle.calls.specs.Contents.{Collection}
use Rattle.records.specs.declared.record.Record.{Record}
use Rattle.records.specs.declared.block.Block.{Block}
use Rattle.records.specs.declared.block.Image.{Image}
use Rattle.images.specs.Gathers.{GatherState, Packs}
use Rattle.steps.specs.Machine.{journalled}
use Rattle.replay.specs.Steps.{State}
use Rattle.txn.specs.declared.actions.BookStep.{BookStep}
use Rattle.txn.specs.Histories.{records_by}
use Rattle.txn.specs.Handing.{IsImageIn, HasHanded}
use Rattle.checkpoint.specs.Keepers.{KeeperState}
use Rattle.checkpoint.specs.Keeping.{BegunImage, IsImageFor, AreImagesFor, HasReceived}
use Rattle.checkpoint.specs.Stored.{StandIn}
use Rattle.world.specs.Pasts.{Past, AreBookSteps, greatest_told}
use Rattle.txn.specs.Books.{NamedBook}
use Rattle.catalog.specs.Meaning.{catalog_meaning, catalog_making}

-- The parts of a world that its past speaks of. The blocks in transit were handed over, and the
-- keeper did not take them yet. The mark is the one that the next look answers.
pub record Parts (D : Type 0) : Type 0 where
  pub book : NamedBook
  -- what is gathered of the book for an image
  pub gather : GatherState
  pub keeper : KeeperState D
  pub transit : List Block
  pub mark : ℕ

-- the parts of a world, from its fields
abbrev pub parts_of : {D : Type 0} → NamedBook → GatherState → KeeperState D → List Block → ℕ →
    Parts D
parts_of book gather keeper transit mark = record {
  book = book;
  gather = gather;
  keeper = keeper;
  transit = transit;
  mark = mark;
}

-- The image is one of the book after a beginning of its steps, and stands for the records up to
-- there. The records of all steps lead to the state now.
pub record StandsForBook (format : Format) (start : List Collection) (wear : ℕ)
    (steps : List BookStep) (now : State)
    (image : Image) : Type 0 where
  pub is_in : IsImageIn catalog_meaning catalog_making (λ v. v) format start wear steps image
  pub begun : BegunImage
  pub is_for : IsImageFor image begun
  pub stands : StandIn format start wear (records_by steps) now begun.blocks begun.covered

-- The world is one to which the steps of the past, with their answers, led from the start.
pub record HasPast {D : Type 0} (seen : D → List ℕ) (may_leave : D → List ℕ → Type 0)
    (start : List Collection) (past : Past) (w : Parts D) : Type 0 where
  -- the format and the wear of the book that was opened, and its steps since
  pub format : Format
  pub wear : ℕ
  pub steps : List BookStep
  pub are : AreBookSteps past steps
  -- the blocks that the keeper took, the records of all that were handed over, the LSNs at which
  -- the book was frozen and an end held, and the images that were begun, each one of the book after
  -- a beginning of its steps
  pub received : List Block
  pub groups : List (List Record)
  pub freezes : List ℕ
  pub images : List Image
  pub handed : HasHanded catalog_meaning catalog_making (λ v. v) format start wear steps w.book
      (received ++ w.transit) groups freezes images
  -- what the keeper made of these blocks and images: an image that is being written, or in use, is
  -- one of them, and a stop now leaves what `Yields` says of the transactions that the mark tells
  pub begun : List BegunImage
  pub are_begun : AreImagesFor images begun
  pub keeps : HasReceived seen may_leave format start wear (records_by steps)
      (journalled w.book.state)
      freezes begun received w.keeper
  -- whatever image is packed of what is gathered, which is frozen then, may be begun
  pub packs : (image : Image) → Packs w.gather image →
      StandsForBook format start wear steps (journalled w.book.state) image
  -- the mark is the keeper's, and what was told is kept
  pub marked : w.mark ≡ w.keeper.mark
  pub told : greatest_told past ≤ w.mark
