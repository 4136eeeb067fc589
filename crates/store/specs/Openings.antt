-- A store that was opened and has no name yet.
use Rattle.std.specs.Prelude.{◌≡◌, ℕ, List}
use Rattle.calls.specs.Contents.{Collection}
use Rattle.atomic_table.specs.Seated.{TableId}
use Rattle.catalog.specs.declared.four.Four.{Four}
use Rattle.disk_model.specs.declared.disk.Disk as disks
use Rattle.txn.specs.Books.{BookState}
use Rattle.checkpoint.specs.Keepers.{KeeperState}
use Rattle.recovery.specs.Openings.{IsOpened, IsReadyStore}
use Rattle.desks.specs.declared.naming.Naming.{Ghosts}

-- the tables of the parts that threads share, and from which number on they draw
pub record Tables : Type 0 where
  pub line : TableId
  pub mark : TableId
  pub numbers : TableId
  pub handoff : TableId
  pub gathering : TableId
  pub awaited : TableId
  pub shelves : Four TableId
  pub from : ℕ

-- its book and its keeper, and the tables of its parts
pub record OpenedState (D : Type 0) : Type 0 where
  pub book : BookState (List Collection)
  pub keeper : KeeperState D
  pub tables : Tables

-- The bytes were opened, of a disk that read true and was at rest.
pub record IsSoundly {D : Type 0} (g : disks.Ghosts D) (o : OpenedState D) : Type 0 where
  pub bytes : List ℕ
  pub is_opened : IsOpened bytes o.book o.keeper.area (g.seen o.keeper.disk)
  pub ready : IsReadyStore g.seen g.may_leave bytes o.book o.keeper.area o.keeper.disk

-- The name is the store's.
pub record IsNamed {J D : Type 0} (j : Ghosts J) (g : disks.Ghosts D) (o : OpenedState D) :
    Type 0 where
  pub line : o.tables.line ≡ j.line
  pub mark : o.tables.mark ≡ j.mark
  pub numbers : o.tables.numbers ≡ j.numbers
  pub handoff : o.tables.handoff ≡ j.handoff
  pub gathering : o.tables.gathering ≡ j.gathering
  pub awaited : o.tables.awaited ≡ j.awaited
  pub shelves : o.tables.shelves ≡ j.shelves
  pub start : o.book.state.now ≡ j.origin.start
  pub format : o.book.state.format ≡ j.origin.format
  pub wear : o.book.state.wear ≡ j.origin.wear
  pub next : o.book.next ≡ j.origin.next
  pub opened_at : g.moment o.keeper.disk ≡ j.opened_at
  pub left_since : (t : ℕ) (bytes : List ℕ) → g.left_since o.keeper.disk t bytes →
      j.left_since t bytes
  pub sound : j.sound → IsSoundly g o

-- The name of the store: the tables of its parts, what its book held, and what a stop might have
-- left of its disk. What is taken for granted is that its bytes were opened, of a disk that read
-- true and was at rest.
abbrev pub naming_of : {J D : Type 0} → disks.Ghosts D → OpenedState D → Ghosts J
naming_of g o = record {
  line = o.tables.line;
  mark = o.tables.mark;
  numbers = o.tables.numbers;
  handoff = o.tables.handoff;
  gathering = o.tables.gathering;
  awaited = o.tables.awaited;
  shelves = o.tables.shelves;
  origin = record {
    start = o.book.state.now;
    format = o.book.state.format;
    wear = o.book.state.wear;
    next = o.book.next;
  };
  opened_at = g.moment o.keeper.disk;
  left_since = g.left_since o.keeper.disk;
  sound = IsSoundly g o;
}
