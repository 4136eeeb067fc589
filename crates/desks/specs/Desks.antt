-- What lies under the journal's lock.
use Rattle.calls.specs.declared.format.Format.{Format}
use Rattle.std.specs.Prelude.{◌≡◌, ℕ, List, [], map, Contains, Option, Some, None}
use Rattle.std.specs.List.{AllByRecursion}
use Rattle.calls.specs.Contents.{Collection}
use Rattle.calls.specs.Transactions.{Entry}
use Rattle.records.specs.declared.record.Record.{Record}
use Rattle.records.specs.Records.{IsRecord}
use Rattle.records.specs.declared.block.Image.{Image}
use Rattle.images.specs.Gathers.{FrozenState, GatherState, Packs}
use Rattle.steps.specs.Machine.{journalled}
use Rattle.steps.specs.Machines.{resting}
use Rattle.replay.specs.Steps.{State, Repeats}
use Rattle.replay.specs.Lagging.{Lags}
use Rattle.txn.specs.declared.actions.BookStep.{BookStep}
use Rattle.txn.specs.Books.{BookState}
use Rattle.txn.specs.Freezing.{IsGatheredOf}
use Rattle.txn.specs.Histories.{records_by}
use Rattle.txn.specs.Handing.{HasHanded}
use Rattle.catalog.specs.Meaning.{catalog_meaning, catalog_making}
use Rattle.checkpoint.specs.Stored.{StandIn}
use Rattle.checkpoint.specs.Keeping.{BegunImage, IsImageFor}
use Rattle.group_commit.specs.Accords.{AccordState}
use Rattle.group_commit.specs.Lines as lines
use Rattle.group_commit.specs.declared.numbers.Report.{Report}
use Rattle.group_commit.specs.Numbers.{MakerState, IsReported}
use Rattle.group_commit.specs.Orders.{SenderState}
use Rattle.desks.specs.declared.naming.Naming.{Ghosts}
use Rattle.desks.specs.Owners.{transaction_of, AreOwned}

-- how many records came before a freeze
abbrev pub frozen_end : Option FrozenState → ℕ
frozen_end None = 0
frozen_end (Some frozen) = frozen.image_head.end

-- and before each of what was frozen
abbrev pub frozen_ends : List GatherState → List ℕ
frozen_ends noted = map (λ g. frozen_end g.frozen) noted

-- The records of an opened book, with this wear, lead to the state now.
module _ (format : Format) (start : List Collection) (wear : ℕ) (records : List Record)
    (now : State) where
  -- The image stands for a beginning of the records.
  pub record IsImageOfRecords (image : Image) : Type 0 where
    pub begun : BegunImage
    pub is_for : IsImageFor image begun
    pub stands : StandIn format start wear records now begun.blocks begun.covered

  -- Whatever is packed of what was frozen stands for a beginning of the records.
  abbrev pub PacksImages : GatherState → Type 0
  PacksImages g = (image : Image) → Packs g image → IsImageOfRecords image

  -- The records are good, and lead the opened book to a state that lags behind the one now, which
  -- is what a journal tells of the book; and what is packed of what was frozen stands for
  -- beginnings of them.
  pub record AreRecorded (noted : List GatherState) : Type 0 where
    pub good : AllByRecursion (IsRecord None) records
    pub of_book : now.format ≡ format
    pub trail : State
    pub leads : Repeats records (resting format start wear) trail
    pub trails : Lags trail now
    pub stand : AllByRecursion PacksImages noted

-- A number of which a client took a step was reported by the client's drawer, which has the number
-- of the client.
abbrev pub AreReported : List Report → List BookStep → Type 0
AreReported reports steps = (x : BookStep) → Contains steps x → (n client : ℕ) →
    transaction_of x.action ≡ Some n → x.client ≡ Some client → IsReported reports client n

-- What contracts see under the journal's lock: the names of the collections, by number, and what
-- the live transactions asked for and did not undo.
pub record DeskState : Type 0 where
  pub names : List (List ℕ)
  pub entries : List (ℕ × Entry)

-- As many drawers were made as clients, and who entered a number drew it.
pub record IsDrawn (maker : MakerState) (seat : lines.BookState) : Type 0 where
  pub made : maker.made ≡ seat.clients
  pub reported : AreReported maker.reports seat.all

-- The book stands where its history led, each step of which was taken by who may take it. Its first
-- records were sent in blocks, and the others are pending. No block crosses where it was frozen.
-- What the near end of the accord knows to be gathered is of the book.
pub record IsDesk {J : Type 0} (j : Ghosts J) (book : BookState (List Collection))
    (seat : lines.BookState) (sender : SenderState) (near : AccordState) : Type 0 where
  pub line : seat.table ≡ j.line
  pub handoff : sender.table ≡ j.handoff
  pub gathering : near.table ≡ j.gathering
  pub gathered : IsGatheredOf (λ v. v) book near.gather
  pub groups : List (List Record)
  pub handed : HasHanded catalog_meaning catalog_making (λ v. v) j.origin.format j.origin.start
      j.origin.wear seat.all
      book
      sender.sent groups (frozen_ends sender.noted) []
  pub owned : AreOwned seat.all
  pub recorded : j.sound →
      AreRecorded j.origin.format j.origin.start j.origin.wear (records_by seat.all)
      (journalled book.state) sender.noted
