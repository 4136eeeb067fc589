-- What a book has handed over since it was opened, and the images of it.
use Rattle.calls.specs.declared.format.Format.{Format}
use Rattle.std.specs.Prelude.{◌≡◌, ◌⊎◌, ℕ, ◌<◌, List, ◌++◌, length, Contains, None}
use Rattle.std.specs.List.{AllByRecursion}
use Rattle.calls.specs.Contents.{Collection}
use Rattle.records.specs.declared.record.Record.{Record}
use Rattle.records.specs.Records.{IsRecord}
use Rattle.records.specs.Acts.{places}
use Rattle.records.specs.declared.block.Block.{Block}
use Rattle.records.specs.declared.block.Image.{Image}
use Rattle.records.specs.Carried.{Carries}
use Rattle.records.specs.Packings.{joined}
use Rattle.images.specs.Images.{IsPackedImage}
use Rattle.boosted.specs.Meaning.{Meaning}
use Rattle.catalog.specs.Making.{Making}
use Rattle.txn.specs.declared.actions.BookStep.{BookStep}
use Rattle.txn.specs.Rows.{Standing, opening}
use Rattle.txn.specs.Books.{BookState, standing}
use Rattle.txn.specs.Histories.{IsLegal, records_by}

-- No block that carries these groups of records, and none that will be cut from the book, has
-- records from both sides of the LSN.
abbrev pub IsBetween : {S : Type 0} → List (List Record) → BookState S → (lsn : ℕ) → Type 0
IsBetween groups book lsn =
    ((first rest : List (List Record)) × (groups ≡ first ++ rest) ×
    (lsn ≡ length (joined first)))
    ⊎ ((book.end < lsn) × Contains book.freezes lsn)

-- format, start, wear: of the book that was opened.
module _ {S : Type 0} (meaning : Meaning S ℕ) (making : Making S)
    (collections : S → List Collection) (format : Format) (start : S) (wear : ℕ) where
  -- The image is one of the book after a beginning of the steps: it shows what stood there, and has
  -- the LSN behind the last record, and the count of commits and makes, that were there.
  pub record IsImageIn (steps : List BookStep) (image : Image) : Type 0 where
    pub first : List BookStep
    pub rest : List BookStep
    pub begins : steps ≡ first ++ rest
    pub there : Standing S
    pub legal : IsLegal meaning making (opening format start wear) first there
    pub next : ℕ
    pub packed : IsPackedImage collections next there.state image.blocks.items
    pub end : image.end ≡ length (records_by first)
    pub place : image.place ≡ there.places

  -- The book stands where its steps since it was opened led, and has handed these blocks over: they
  -- carry the first records of its steps, and the others are pending. It was frozen at these LSNs,
  -- which no block crosses, and the images are of it.
  pub record HasHanded (steps : List BookStep) (book : BookState S) (handed : List Block)
      (groups : List (List Record)) (freezes : List ℕ) (images : List Image) : Type 0 where
    pub legal : IsLegal meaning making (opening format start wear) steps (standing book)
    pub good : AllByRecursion (IsRecord None) (records_by steps)
    pub carried : Carries 0 0 handed groups
    pub records : records_by steps ≡ joined groups ++ book.pending
    pub end : book.end ≡ length (joined groups)
    pub place : book.place ≡ places (joined groups)
    pub are_images : AllByRecursion (IsImageIn steps) images
    pub between : AllByRecursion (λ lsn. IsBetween groups book lsn) freezes
