-- What lies under the journal's lock and under a shelf's, and what ties the two.
use Rattle.std.specs.Prelude.{◌≡◌, ℕ, List, [], ◌∷◌, Option, Some, None}
use Rattle.calls.specs.Contents.{Collection}
use Rattle.atomic_table.specs.Seated.{TableId}
use Rattle.boosted.specs.Meaning.{Meaning}
use Rattle.catalog.specs.declared.four.Four.{Four}
use Rattle.catalog.specs.Fours.{Which, pick}
use Rattle.catalog.specs.Making.{Making}
use Rattle.steps.specs.Shelves.{ShelfState}
use Rattle.txn.specs.Books.{BookState}
use Rattle.txn.specs.Shelved.{JournalState, book_state, IsBook}
use Rattle.group_commit.specs.Accords.{AccordState}
use Rattle.group_commit.specs.Lines as lines
use Rattle.group_commit.specs.Orders.{SenderState}
use Rattle.group_commit.specs.Twins.{EndState}
use Rattle.desks.specs.declared.naming.Naming.{Ghosts}
use Rattle.desks.specs.declared.touch.Touch.{Touch}
use Rattle.desks.specs.Desks.{IsDesk}
use Rattle.desks.specs.Told.{told_book}

-- Where touches lead: to what the last one left.
abbrev pub led : {S : Type 0} → Option S → List (Touch S) → Option S
led o [] = o
led o (t ∷ ts) = led t.left ts

-- The end's touches lead to this.
abbrev pub Leads : {S : Type 0} → EndState (Touch S) → S → Type 0
Leads e s = led None e.list ≡ Some s

-- A shelf's side: its end is of its twin, and leads to what the shelf holds, with its needs.
pub record IsShelf {T : Type 0} (tables : Four TableId) (w : Which) (s : ShelfState T)
    (far : EndState (Touch (ShelfState T))) : Type 0 where
  pub table : far.table ≡ pick tables w
  pub leads : Leads far s

-- S: whole contents. T: contents of a shelf. N: names with kinds.
-- whole: the collections that names and four shelves are. fits: these belong together.
module _ {S T N J : Type 0} (j : Ghosts J) (meaning : Meaning S ℕ) (making : Making S)
    (collections : S → List Collection) (whole : N → Four T → S) (fits : N → Four T → Type 0) where
  -- The ends are of the shelves' twins, and know what the shelves hold, which are a book with the
  -- journal.
  pub record IsKnown (k : JournalState N) (nears : Four (EndState (Touch (ShelfState T))))
      (f : Four (ShelfState T)) : Type 0 where
    pub tables : (w : Which) → (pick nears w).table ≡ pick j.shelves w
    pub leads : (w : Which) → Leads (pick nears w) (pick f w)
    pub book : IsBook meaning making collections whole fits k f

  -- A step leads from what the ends know to what they know then, and is of the book as told.
  abbrev pub LeadsKnown : (BookState S → BookState S → Type 0) →
      (k : JournalState N) (nears : Four (EndState (Touch (ShelfState T)))) (l : JournalState N)
      (ends : Four (EndState (Touch (ShelfState T)))) → Type 0
  LeadsKnown Told k nears l ends = (f : Four (ShelfState T)) → IsKnown k nears f →
      (g : Four (ShelfState T)) × IsKnown l ends g ×
      Told (book_state whole k f) (book_state whole l g)

  -- The journal's side: with the shelves that its ends know it is a book, which stands where its
  -- history led.
  pub record IsJournalDesk (k : JournalState N) (nears : Four (EndState (Touch (ShelfState T))))
      (seat : lines.BookState) (sender : SenderState) (near : AccordState) : Type 0 where
    pub shelves : Four (ShelfState T)
    pub known : IsKnown k nears shelves
    pub format : k.transactions.format ≡ j.origin.format
    pub desk : IsDesk j (told_book collections (book_state whole k shelves)) seat sender near
