-- What an opening finds, what it writes, and why it is refused.
use Rattle.std.specs.Prelude.{◌≡◌, ◌≢◌, [], ◌++◌, ℕ, ◌+◌, ◌<◌, false, List, length, drop, get_or}
use Rattle.std.specs.Prelude.{map, None}
use Rattle.std.specs.List.{AllByRecursion}
use Rattle.std.specs.FinMap as maps
use Rattle.calls.specs.declared.format.Format.{Format}
use Rattle.calls.specs.declared.refusal.Refusal.{Refusal}
use Rattle.calls.specs.Contents.{Collection}
use Rattle.calls.specs.Transactions.{Leads}
use Rattle.disk_model.specs.Disk.{IsAtRest, LeavesOnly}
use Rattle.gate_block.specs.declared.area.Area.{Area}
use Rattle.gate_block.specs.Row.{row, IsRow, StandsAt, SameOutside, part}
use Rattle.gate_block.specs.Area.{base_of, size_of, offset_of, has_failed, IsReady}
use Rattle.records.specs.declared.record.Record.{Record}
use Rattle.records.specs.Records.{spelling, AreRecords}
use Rattle.txn.specs.Books.{BookState, opened}
use Rattle.recovery.specs.declared.report.Report.{Report}
use Rattle.replay.specs.Journals.{IsHeader, StandsFor, records_in}
use Rattle.gate_block.specs.Layout.{base_in_use, area_in_use}
use Rattle.gate_block.specs.Row.{open_gate}
use Rattle.replay.specs.Steps.{State}
use Rattle.replay.specs.Reading.{Progress, Unread, Reads, last_named, AreAccepted, IsSound}
use Rattle.replay.specs.Repetitions.{AreRead}
use Rattle.replay.specs.Undoing.{Undo, IsUndoRecord, AreBlocksOf}

-- The area of a disk of this version is a row of these blocks, of an image and a journal of so many
-- records, which lead to the state; the number is above every number that they enter.
pub record IsRead (version : Format) (base size : ℕ) (bytes : List ℕ) (blocks : List (List Record))
    (next : ℕ)
    (state : State) (count : ℕ) : Type 0 where
  pub good : AreRecords None (records_in blocks)
  pub row_is : IsRow (map spelling blocks) (part base size bytes)
  pub accepted : AreAccepted version (records_in blocks) next state count

-- Blocks that an opening takes: those of an accepted image and journal.
pub record AreSound (version : Format) (base size : ℕ) (bytes : List ℕ)
    (blocks : List (List Record)) : Type 0 where
  pub next : ℕ
  pub end : State
  pub count : ℕ
  pub is_read : IsRead version base size bytes blocks next end count

-- At this place of a disk of this version stands the first fault of an area. Before it stand whole
-- blocks, whose records are read. There the gate is open, and no block stands with which the
-- reading goes on; or it is closed, and the image has not ended.
pub record IsFirstFault (version : Format) (base : ℕ) (area : List ℕ) (place : ℕ) : Type 0 where
  pub blocks : List (List Record)
  pub good : AreRecords None (records_in blocks)
  pub offset : ℕ
  pub behind : offset ≡ length (row (map spelling blocks))
  pub stood : area ≡ row (map spelling blocks) ++ drop offset area
  pub place_is : place ≡ base + offset
  pub begins : (p : Progress) × Leads Reads (records_in blocks) (Unread version) p
  pub no_block : (group : List Record) → AreRecords (last_named None (records_in blocks)) group →
      StandsAt area offset (spelling group) → (p : Progress) →
      Leads Reads (records_in blocks ++ group) (Unread version) p → ⊥
  pub no_end : get_or area offset 0 ≢ open_gate → (next : ℕ) (s : State) (count : ℕ) →
      AreAccepted version (records_in blocks) next s count → ⊥

-- Why an area could not be loaded: for want of memory, for a counted fault, or for damage at the
-- place.
abbrev pub IsLoadRefusal : Type 0 → (ℕ → Type 0) → Refusal → Type 0
IsLoadRefusal is_risen is_damaged Refusal.NoMemory = Unit {0}
IsLoadRefusal is_risen is_damaged Refusal.Fault = is_risen
IsLoadRefusal is_risen is_damaged (Refusal.Damaged place) = is_damaged place
IsLoadRefusal is_risen is_damaged e = ⊥

-- The area has its first fault at this place, so no sound blocks stand there.
pub record IsSpoilt (version : Format) (base size : ℕ) (bytes : List ℕ) (place : ℕ) : Type 0 where
  pub fault : IsFirstFault version base (part base size bytes) place
  pub unsound : (blocks : List (List Record)) → AreSound version base size bytes blocks → ⊥

-- The bytes are damaged, first at this place: the area that their head picks has its first fault
-- there, and they are not sound.
pub record IsDamagedAt (bytes : List ℕ) (place : ℕ) : Type 0 where
  pub version : Format
  pub size : ℕ
  pub header : IsHeader version size bytes
  pub fault : IsFirstFault version (base_in_use size bytes) (area_in_use size bytes) place
  pub unsound : IsSound bytes → ⊥

-- the book of a state in which nothing is live
abbrev pub book_of : State → (next : ℕ) → BookState (List Collection)
book_of s next = opened s.format s.now next s.wear

-- A store was opened: its head picks the area, and that was read. Whatever was live is undone, and
-- the records of the undoing stand in blocks behind the others, in the area and nowhere else. The
-- book is of the state that they lead to.
pub record IsOpened (old : List ℕ) (book : BookState (List Collection)) (area : Area)
    (new : List ℕ) : Type 0 where
  -- the head of the store
  pub version : Format
  pub header : IsHeader version (size_of area) old
  pub picks : base_of area ≡ base_in_use (size_of area) old
  -- what was read of the area
  pub blocks : List (List Record)
  pub next : ℕ
  pub state : State
  pub count : ℕ
  pub is_read : IsRead version (base_of area) (size_of area) old blocks next state count
  -- what undoes all that was live, and the book behind it
  pub undoing : List Record
  pub undone : State
  pub undo : Undo state undoing undone
  pub marks : AllByRecursion IsUndoRecord undoing
  pub book_is : book ≡ book_of undone next
  -- the blocks of that, and where they stand
  pub written : List (List Record)
  pub in_blocks : AreBlocksOf undoing written
  pub read_too : AllByRecursion AreRead written
  pub row_is : IsRow (map spelling (blocks ++ written)) (part (base_of area) (size_of area) new)
  pub offset : offset_of area ≡ length (row (map spelling (blocks ++ written)))
  -- what else the area and the disk are
  pub elsewhere : SameOutside (base_of area) (size_of area) old new
  pub unwritten : written ≡ [] → new ≡ old
  pub fine : has_failed area ≡ false

-- A stop now leaves what a read gives, and the area holds its blocks up to its next gate.
pub record IsReadyStore {D : Type 0} (seen : D → List ℕ) (may_leave : D → List ℕ → Type 0)
    (old : List ℕ) (book : BookState (List Collection)) (area : Area) (disk : D) : Type 0 where
  pub at_rest : IsAtRest seen may_leave disk
  pub ready : (o : IsOpened old book area (seen disk)) →
      IsReady seen may_leave area disk (map spelling (o.blocks ++ o.written))

-- The blocks of the undoing do not fit behind the others.
pub record HasNoRoom (bytes : List ℕ) : Type 0 where
  -- the head of the store
  pub version : Format
  pub size : ℕ
  pub header : IsHeader version size bytes
  -- what is read of the area in use
  pub blocks : List (List Record)
  pub next : ℕ
  pub state : State
  pub count : ℕ
  pub is_read : IsRead version (base_in_use size bytes) size bytes blocks next state count
  -- what undoes all that was live
  pub undoing : List Record
  pub undone : State
  pub undo : Undo state undoing undone
  -- the blocks of that, and that they end behind the area
  pub written : List (List Record)
  pub in_blocks : AreBlocksOf undoing written
  pub full : size < length (row (map spelling (blocks ++ written))) + 1

-- Why a store could not be read: for want of memory, for a counted fault, where there is no head,
-- or for damage at the place.
abbrev pub IsFindRefusal : Type 0 → Type 0 → (ℕ → Type 0) → Refusal → Type 0
IsFindRefusal is_risen no_head is_damaged Refusal.NoMemory = Unit {0}
IsFindRefusal is_risen no_head is_damaged Refusal.Fault = is_risen
IsFindRefusal is_risen no_head is_damaged Refusal.NotAStore = no_head
IsFindRefusal is_risen no_head is_damaged (Refusal.Damaged place) = is_damaged place
IsFindRefusal is_risen no_head is_damaged e = ⊥

-- Why a store could not be opened: as why it could not be read, or where the records of the undoing
-- do not fit.
abbrev pub IsOpenRefusal : Type 0 → Type 0 → (ℕ → Type 0) → Type 0 → Refusal → Type 0
IsOpenRefusal is_risen no_head is_damaged no_room Refusal.Full = no_room
IsOpenRefusal is_risen no_head is_damaged no_room e = IsFindRefusal is_risen no_head is_damaged e

-- On a disk at rest whose bytes are sound and stand for a content, a stop at any moment since old
-- leaves bytes that are sound and stand for it.
abbrev pub KeepsContent : {D : Type 0} → (D → List ℕ) → (D → List ℕ → Type 0) → (D → ℕ) →
    (D → ℕ → List ℕ → Type 0) → D → D → Type 0
KeepsContent seen may_leave moment left_since old new =
    (content : List Collection) → IsAtRest seen may_leave old → IsSound (seen old) →
    StandsFor (seen old) content → LeavesOnly moment left_since old new
    (λ b. IsSound b × StandsFor b content)

-- What a store holds: so many collections, so many transactions that have not ended, and so many
-- records in the journal.
pub record IsReport (bytes : List ℕ) (report : Report) : Type 0 where
  -- the head of the store
  pub version : Format
  pub size : ℕ
  pub header : IsHeader version size bytes
  -- what is read of the area in use
  pub blocks : List (List Record)
  pub next : ℕ
  pub state : State
  pub count : ℕ
  pub is_read : IsRead version (base_in_use size bytes) size bytes blocks next state count
  -- what is told of that
  pub collections : report.collections ≡ length state.now
  pub unfinished : report.unfinished ≡ maps.len state.live
  pub records : report.records ≡ count
