-- What is gathered of the book of a store for an image.
use Rattle.std.specs.Prelude.{◌≡◌, ◌≢◌, ◌⊎◌, ℕ, Option, Some, None, List, length, Result, Ok, Err}
use Rattle.std.specs.Prelude.{IfOk, IfErr}
use Rattle.calls.specs.Contents.{Content, Collection}
use Rattle.calls.specs.declared.refusal.Refusal.{Refusal}
use Rattle.disk_model.specs.declared.disk.Disk as disks
use Rattle.boosted.specs.Meaning.{Meaning}
use Rattle.catalog.specs.declared.four.Four.{Four}
use Rattle.catalog.specs.Making.{Making}
use Rattle.catalog.specs.Woven.{Label}
use Rattle.steps.specs.Shelves.{ShelfState}
use Rattle.images.specs.Gathers.{GatherState, Repeats}
use Rattle.images.specs.Gatherings.{CanGoOn}
use Rattle.txn.specs.Parts.{IsCopy}
use Rattle.txn.specs.Shelved.{JournalState}
use Rattle.txn.specs.Books.{BookState, lsn}
use Rattle.txn.specs.Freezing.{FreezeAnswers}
use Rattle.checkpoint.specs.ImageAnswers.{HoldAnswers}
use Rattle.engine.specs.Gatherings.{if_held, unless_outrun}
use Rattle.checkpoint.specs.Keepers.{KeeperState}
use Rattle.checkpoint.specs.Keeping.{HoldKeeps}
use Rattle.group_commit.specs.Accords.{AccordState}
use Rattle.images.specs.Gathers.{nothing_gathered}
use Rattle.group_commit.specs.Lines as lines
use Rattle.group_commit.specs.Orders.{SenderState}
use Rattle.group_commit.specs.Twins.{EndState}
use Rattle.desks.specs.declared.naming.Naming.{Ghosts}
use Rattle.desks.specs.declared.touch.Touch.{Touch}
use Rattle.desks.specs.Touches.{IsJournalDesk}

-- what is gathered, and what the book's side and the keeper's know of it
pub record GathererState : Type 0 where
  pub gather : GatherState
  pub of_book : AccordState
  pub of_keeper : AccordState

-- It is nothing, or what a side knows with some of its calls repeated.
abbrev pub IsKnown : AccordState → GatherState → Type 0
IsKnown side g = (g ≡ nothing_gathered) ⊎ Repeats side.gather g

-- The book's side knows what is gathered until it is frozen, and the keeper's side what is frozen.
pub record IsGatherer {J : Type 0} (j : Ghosts J) (s : GathererState) : Type 0 where
  pub gathering : s.of_book.table ≡ j.gathering
  pub awaited : s.of_keeper.table ≡ j.awaited
  pub unfrozen : s.gather.frozen ≡ None → IsKnown s.of_book s.gather
  pub frozen : s.gather.frozen ≢ None → Repeats s.of_keeper.gather s.gather

-- a copy, as what is gathered is gone on with
abbrev pub as_next : {P : Type 0} → Result P Refusal → Result (Option P) Refusal
as_next (Ok part) = Ok (Some part)
as_next (Err e) = Err e

-- S: contents of the collections. T: contents of a shelf. N: names with kinds. P: a copy of a
-- collection. The others as a book in parts has them.
module _ {J S T N P : Type 0} (j : Ghosts J) (labels : N → List Label)
    (holds : T → ℕ → Content → Type 0) (collection : P → Collection) (meaning : Meaning S ℕ)
    (making : Making S) (collections : S → List Collection) (whole : N → Four T → S)
    (fits : N → Four T → Type 0) where
  -- The journal is of a store. Where what is gathered may be gone on with, the part is a copy of
  -- the next collection of the book, or there was no memory for one.
  pub record IsGivenTo (k : JournalState N) (nears : Four (EndState (Touch (ShelfState T))))
      (seat : lines.BookState) (sender : SenderState) (near : AccordState) (g : GatherState)
      (part : Result (Option P) Refusal) : Type 0 where
    pub desk : IsJournalDesk j meaning making collections whole fits k nears seat sender near
    pub copied : CanGoOn k.gathering g →
        IfOk part (IsCopy labels holds collection k.names desk.shelves (length g.parts))
    pub refused : IfErr part (λ e. e ≡ Refusal.NoMemory)

-- The book froze, and then the keeper was asked to hold the end of its image. Where the book
-- refused, the keeper is not asked.
abbrev pub Froze : {D : Type 0} → disks.Ghosts D → BookState (List Collection) → KeeperState D →
    GatherState → Result (Unit {0}) Refusal → Result (Unit {0}) Refusal →
    BookState (List Collection) → KeeperState D → GatherState → Type 0
Froze g b k m (Ok done) a c l n =
    FreezeAnswers (λ v. v) b m (Ok done) c n ×
    HoldAnswers k (record { end = lsn b; place = b.places }) l a ×
    HoldKeeps g (lsn b) a k l
Froze g b k m (Err e) a c l n =
    FreezeAnswers (λ v. v) b m (Err e) c n × (a ≡ Err e) × (l ≡ k)

-- what is left of what was gathered where the book froze so, and the keeper was asked so
abbrev pub left_gathered : Result (Unit {0}) Refusal → Result (Unit {0}) Refusal → GatherState →
    GatherState
left_gathered (Ok done) held g = if_held held g
left_gathered (Err e) held g = unless_outrun g.frozen e g
