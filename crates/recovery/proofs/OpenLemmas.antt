-- A store that was found: what its opening gives, and what a stop in it leaves.
use Rattle.std.proofs.Common.{◌≡◌, inl, inr, ℕ, ◌+◌, ◌*◌, ◌%◌, ◌<◌, ◌≤◌, List, [], ◌∷◌, ◌++◌}
use Rattle.std.proofs.Common.{length, take, drop, get_or, map, refl, sym, ◌∙◌, ap, subst, arith}
use Rattle.std.proofs.Common.{append_assoc, length-append, None}
use Rattle.std.proofs.lemmas.List.{append-nil, map-append, take-take, drop-take, get_or-take}
use Rattle.std.specs.List.{AllByRecursion}
use Rattle.calls.specs.declared.format.Format.{Format}
use Rattle.calls.specs.Contents.{Collection}
use Rattle.calls.specs.Transactions.{Leads, Serial, committed}
use Rattle.disk_model.specs.Disk.{ReadsOnly, IsAtRest, LeavesOnly}
use Rattle.disk_model.proofs.Walk.{and_then, reads_rest}
use Rattle.gate_block.specs.declared.area.Area.{Area}
use Rattle.gate_block.specs.Row.{row, IsRow, SameOutside, part}
use Rattle.gate_block.specs.Area.{base_of, size_of, offset_of, bytes_of}
use Rattle.gate_block.proofs.Facts.{row-append}
use Rattle.gate_block.proofs.Unique.{row_unique}
use Rattle.records.specs.declared.record.Record.{Record}
use Rattle.records.specs.Records.{spelling, IsRecord, AreRecords}
use Rattle.records.specs.Acts.{acts_of}
use Rattle.records.specs.Short.{IsOf}
use Rattle.records.specs.Images.{IsImage}
use Rattle.txn.specs.Books.{BookState}
use Rattle.replay.specs.Journals.{Holds, IsHeader, StandsFor, IsJournalRecord, records_in}
use Rattle.gate_block.specs.Layout.{base_in_use, area_in_use}
use Rattle.replay.specs.Steps.{State, Steps, Repeats}
use Rattle.replay.specs.Reading.{Unread, InJournal, Reads, AreAccepted, IsSound, last_named}
use Rattle.replay.specs.Repetitions.{AreRead}
use Rattle.replay.specs.Undoing.{Undo, IsUndoRecord, AreBlocksOf, blocks_len}
use Rattle.replay.specs.Appending.{IsAt, HoldsFirst, IsAppended}
use Rattle.recovery.specs.Finding.{IsStored}
use Rattle.recovery.specs.Openings.{IsRead, IsOpened, HasNoRoom, KeepsContent, book_of}
use Rattle.replay.proofs.Lists.{leads_append, leads_split, flat_map-append}
use Rattle.boosted.proofs.Each.{each_append, each_front, each_back}
use Rattle.replay.proofs.Grammar.{records_spelt, same_blocks}
use Rattle.replay.proofs.OneFormat.{accepted_holds}
use Rattle.replay.proofs.RepeatLemmas.{records_append, read_records}
use Rattle.replay.proofs.Parts.{journal_reads}
use Rattle.replay.proofs.Contents.{acts_of-append, content_behind}
use Rattle.replay.proofs.UndoRecords.{undo_records_read, undo_acts, undo_journal, blocks_hold}
use Rattle.replay.proofs.UndoRecords.{in_blocks, rows_len}

-- ---- a head that nothing changed

front_same : (base size n : ℕ) (old new : List ℕ) → n ≤ base → SameOutside base size old new →
    take n new ≡ take n old
front_same base size n old new le outside =
    sym (take-take n base new le) ∙ ap (take n) outside.before ∙ take-take n base old le

pub byte_same : (base size n : ℕ) (old new : List ℕ) → n < base → SameOutside base size old new →
    get_or new n 0 ≡ get_or old n 0
byte_same base size n old new lt outside =
    sym (get_or-take base new n 0 lt) ∙ ap (λ l. get_or l n 0) outside.before ∙
    get_or-take base old n 0 lt

pub header_same : (version : Format) (base size area : ℕ) (old new : List ℕ) → 4096 ≤ base →
    SameOutside base area old new → IsHeader version size old → IsHeader version size new
header_same version base size area old new far outside header = record {
  letters = front_same base area 8 old new (omega (arith, far)) outside ∙ header.letters;
  gate = byte_same base area 8 old new (omega (arith, far)) outside ∙ header.gate;
  area = sym (drop-take 9 8 new) ∙
      ap (drop 9) (front_same base area 17 old new (omega (arith, far)) outside) ∙
      drop-take 9 8 old ∙ header.area;
  not_small = header.not_small;
  not_large = header.not_large;
  whole = outside.same_size ∙ header.whole;
}

pub picks_same : (base size area : ℕ) (old new : List ℕ) → 4096 ≤ base →
    SameOutside base area old new →
    base_in_use size new ≡ base_in_use size old
picks_same base size area old new far outside =
    ap (λ r. 4096 + size * (r % 2)) (byte_same base area 512 old new (omega (arith, far)) outside)

pub far_off : (base size : ℕ) (bytes : List ℕ) → base ≡ base_in_use size bytes → 4096 ≤ base
far_off base size bytes is = let r : ℕ = get_or bytes 512 0 in elim_far base size (r % 2) is
  where
    elim_far : (base size r : ℕ) → base ≡ 4096 + size * r → 4096 ≤ base
    elim_far base size r is = let more : ℕ = size * r in behind base more is
      where
        behind : (base more : ℕ) → base ≡ 4096 + more → 4096 ≤ base
        behind base more is = omega (arith, is)

pub one_size : (v w : Format) (n m : ℕ) (bytes : List ℕ) → IsHeader v n bytes → IsHeader w m bytes →
    n ≡ m
one_size v w n m bytes a b = omega (arith, a.whole, b.whole)

pub records_in-append : (front back : List (List Record)) →
    records_in (front ++ back) ≡ records_in front ++ records_in back
records_in-append front back = flat_map-append (λ rs. rs) front back

pub by_block : (blocks : List (List Record)) → AreRead (records_in blocks) →
    AllByRecursion AreRead blocks
by_block [] read = tt
by_block (rs ∷ blocks) read = (
  each_front (IsRecord None) rs (records_in blocks) read,
  by_block blocks (each_back (IsRecord None) rs (records_in blocks) read),
)

-- ---- a store that was found

module _ (old : List ℕ) (area : Area) (state : State) (next count : ℕ)
    (stored : IsStored old area state next count) (records : List Record) (undone : State)
    (undo : Undo state records undone) (marks : AllByRecursion IsUndoRecord records) where
  abbrev blocks : List (List Record)
  blocks = stored.loaded.blocks

  abbrev read : IsRead stored.version (base_of area) (size_of area) old blocks next state count
  read = stored.loaded.is_read

  pub stands_there : IsAt area old (map spelling blocks)
  stands_there = record { row_is = read.row_is; offset = stored.loaded.offset }

  pub opens : (after : Area) (new : List ℕ) (book : BookState (List Collection)) →
      IsAppended records area after old new → book ≡ book_of undone next →
      IsOpened old book after new
  opens after new book appended book_is =
      let b : base_of after ≡ base_of area = appended.same_base in
      let n : size_of after ≡ size_of area = appended.same_size in record {
        version = stored.version;
        header = subst (λ k. IsHeader stored.version k old) (sym n) stored.header;
        picks = b ∙ stored.picks ∙ ap (λ k. base_in_use k old) (sym n);
        blocks = blocks;
        next = next;
        state = state;
        count = count;
        is_read = subst (λ k. IsRead stored.version k (size_of after) old blocks next state count)
            (sym b)
            (subst (λ k. IsRead stored.version (base_of area) k old blocks next state count) (sym n)
            read);
        undoing = records;
        undone = undone;
        undo = undo;
        marks = marks;
        book_is = book_is;
        written = appended.written;
        in_blocks = appended.in_blocks;
        read_too = by_block appended.written
            (subst AreRead (sym (blocks_hold records appended.written appended.in_blocks))
            (undo_records_read records marks));
        row_is = subst (λ l. IsRow l (bytes_of after new))
            (sym (map-append spelling blocks appended.written))
            (appended.counts (map spelling blocks) stands_there);
        offset =
            omega (
              arith,
              appended.offset,
              stored.loaded.offset,
              ap (λ l. length (row l)) (map-append spelling blocks appended.written),
              ap length (row-append (map spelling blocks) (map spelling appended.written)),
              length-append (row (map spelling blocks)) (row (map spelling appended.written)),
            );
        elsewhere = subst (λ k. SameOutside k (size_of after) old new) (sym b)
            (subst (λ k. SameOutside (base_of area) k old new) (sym n) appended.elsewhere);
        unwritten = appended.unwritten;
        fine = appended.fine;
      }

  pub has_no_room : size_of area ≤ offset_of area + blocks_len (length records) → HasNoRoom old
  has_no_room over =
      let written = in_blocks records in
      let at : IsRead stored.version (base_in_use (size_of area) old) (size_of area) old blocks next
      state count =
      subst (λ k. IsRead stored.version k (size_of area) old blocks next state count) stored.picks
      read in
      record {
        version = stored.version;
        size = size_of area;
        header = stored.header;
        blocks = blocks;
        next = next;
        state = state;
        count = count;
        is_read = at;
        undoing = records;
        undone = undone;
        undo = undo;
        written = written.0;
        in_blocks = written.1;
        full =
            omega (
              arith,
              over,
              stored.loaded.offset,
              rows_len records written.0 marks written.1,
              ap (λ l. length (row l)) (map-append spelling blocks written.0),
              ap length (row-append (map spelling blocks) (map spelling written.0)),
              length-append (row (map spelling blocks)) (row (map spelling written.0)),
            );
      }

  -- undoing's records behind them
  good : (front : List (List Record)) → AllByRecursion IsUndoRecord (records_in front) →
      AreRecords None (records_in (blocks ++ front))
  good front undo_front =
      subst (AreRecords None) (sym (records_in-append blocks front))
      (records_append None (records_in blocks) (records_in front) read.good
      (read_records (last_named None (records_in blocks)) (records_in front)
      (undo_records_read (records_in front) undo_front)))

  -- the blocks that were loaded are those that the bytes hold
  same_held : (held : List (List Record)) → Holds old held → blocks ≡ held
  same_held held holds =
      let size : holds.size ≡ size_of area =
      one_size holds.version stored.version holds.size (size_of area) old holds.header
      stored.header in
      let there : area_in_use holds.size old ≡ part (base_of area) (size_of area) old =
      ap (λ n. area_in_use n old) size ∙
      ap (λ b. part b (size_of area) old) (sym stored.picks) in
      let bodies : map spelling blocks ≡ map spelling held =
      row_unique (map spelling blocks) (map spelling held)
      (part (base_of area) (size_of area) old) read.row_is
      (subst (λ b. IsRow (map spelling held) b) there holds.row) in
      same_blocks None blocks held (records_spelt None (records_in blocks) read.good) holds.spelt
      bodies

  -- the content that the bytes stand for is what the records lead to
  pub content_is : (content : List Collection) → StandsFor old content → undone.now ≡ content
  content_is content stands =
      content_behind stored.version (records_in blocks) next state count read.accepted records
      undone undo.leads
      undo.over (undo_acts records marks) old content stands
      (ap records_in (same_held stands.blocks stands.holds))

  -- what a stop leaves while the records are written is sound, and stands for the same content
  module _ (c : List ℕ) (holds : HoldsFirst area old (map spelling blocks) records c) where
    abbrev front : List (List Record)
    front = holds.front

    undo_front : AllByRecursion IsUndoRecord (records_in front)
    undo_front = each_front IsUndoRecord (records_in front) holds.more
        (subst (AllByRecursion IsUndoRecord) holds.is marks)

    far : 4096 ≤ base_of area
    far = far_off (base_of area) (size_of area) old stored.picks

    -- where the first of the records lead
    abbrev split : (t : State) × Repeats (records_in front) state t × Repeats holds.more t undone
    split = leads_split Steps (records_in front) holds.more state undone
        (subst (λ l. Repeats l state undone) holds.is undo.leads)

    abbrev more : (n k : ℕ) × Leads Reads (records_in front) (InJournal next state count)
        (InJournal n split.0 k)
    more = journal_reads (records_in front) next state split.0 count split.1

    accepted_all : AreAccepted stored.version (records_in (blocks ++ front)) more.0 split.0 more.1
    accepted_all =
        subst (λ l. AreAccepted stored.version l more.0 split.0 more.1)
        (sym (records_in-append blocks front))
        (leads_append Reads (records_in blocks) (records_in front) (Unread stored.version)
        (InJournal next state count) (InJournal more.0 split.0 more.1) read.accepted more.2)

    abbrev holds_all : Holds c (blocks ++ front)
    holds_all = accepted_holds stored.version (size_of area) c (blocks ++ front) more.0 split.0
        more.1
        (header_same stored.version (base_of area) (size_of area) (size_of area) old c far
        holds.elsewhere
        stored.header)
        (subst (λ b. IsRow (map spelling (blocks ++ front)) (part b (size_of area) c))
        (stored.picks ∙ sym (picks_same (base_of area) (size_of area) (size_of area) old c far
        holds.elsewhere))
        (subst (λ l. IsRow l (bytes_of area c)) (sym (map-append spelling blocks front))
        holds.row_is)) (good front undo_front) accepted_all

    pub stop_sound : IsSound c
    stop_sound = record {
      blocks = blocks ++ front;
      holds = holds_all;
      good = good front undo_front;
      next = more.0;
      end = split.0;
      count = more.1;
      accepted = accepted_all;
    }

    pub stop_stands : (content : List Collection) → StandsFor old content → StandsFor c content
    stop_stands content stands =
        let same : blocks ≡ stands.blocks = same_held stands.blocks stands.holds in
        let all : records_in (blocks ++ front) ≡ records_in stands.blocks ++ records_in front =
        records_in-append blocks front ∙ ap (λ b. records_in b ++ records_in front) same in
        let silent : acts_of (records_in stands.blocks) ≡ acts_of (records_in (blocks ++ front)) =
        sym (append-nil (acts_of (records_in stands.blocks))) ∙
        ap (λ l. acts_of (records_in stands.blocks) ++ l)
        (sym (undo_acts (records_in front) undo_front)) ∙
        sym (acts_of-append (records_in stands.blocks) (records_in front)) ∙
        ap acts_of (sym all) in
        let parts : records_in (blocks ++ front) ≡
        stands.image ++ (stands.journal ++ records_in front) =
        all ∙ ap (λ l. l ++ records_in front) stands.split ∙
        append_assoc stands.image stands.journal (records_in front) in
        let same_format : stands.holds.format ≡ holds_all.format =
        (subst (AllByRecursion (IsOf holds_all.format))
        (parts ∙ ap (λ l. l ++ (stands.journal ++ records_in front)) stands.is_image.is)
        holds_all.of_format).0 in record {
          blocks = blocks ++ front;
          holds = holds_all;
          image = stands.image;
          journal = stands.journal ++ records_in front;
          split = parts;
          all_journal = each_append IsJournalRecord stands.journal (records_in front)
              stands.all_journal (undo_journal (records_in front) undo_front);
          next = stands.next;
          wear = stands.wear;
          shown = stands.shown;
          numbers = stands.numbers;
          live = stands.live;
          is_image = subst (λ f. IsImage f stands.next stands.wear stands.shown stands.numbers
              stands.live stands.image) same_format stands.is_image;
          start = stands.start;
          leads = stands.leads;
          serial = subst (λ a. Serial (committed a) stands.start content) silent stands.serial;
        }

-- what is only read keeps its content
pub keeps_content : {D : Type 0} (seen : D → List ℕ) (may_leave : D → List ℕ → Type 0)
    (moment : D → ℕ) (left_since : D → ℕ → List ℕ → Type 0) (old new : D) →
    ReadsOnly seen may_leave moment left_since old new →
    KeepsContent seen may_leave moment left_since old new
keeps_content seen may_leave moment left_since old new reads content rest sound stands =
    let Fine : List ℕ → Type 0 = λ b. IsSound b × StandsFor b content in
    let at_rest : (c : List ℕ) → may_leave old c → Fine c =
    λ c left. subst Fine (sym (rest c left)) (sound, stands) in
    record {
      later = reads.any_moment.later;
      each = λ c left. at_rest c (reads.any_moment.each c left);
      before = λ t c early left. elim (reads.any_moment.before t c early left) [
        | inl was ↦ inl was
        | inr may ↦ inr (at_rest c may)
      ];
    }

-- nor does what is written behind it change that
pub keeps_on : {D : Type 0} (seen : D → List ℕ) (may_leave : D → List ℕ → Type 0) (moment : D → ℕ)
    (left_since : D → ℕ → List ℕ → Type 0) (old mid new : D) (area : Area) (state undone : State)
    (next count : ℕ) (records : List Record)
    → ReadsOnly seen may_leave moment left_since old mid →
    (stored : IsStored (seen old) area state next count) → Undo state records undone →
    AllByRecursion IsUndoRecord records
    → ((bodies : List (List ℕ)) → IsAt area (seen mid) bodies → IsAtRest seen may_leave mid →
    LeavesOnly moment left_since mid new (HoldsFirst area (seen mid) bodies records)) →
    KeepsContent seen may_leave moment left_since old new
keeps_on seen may_leave moment left_since old mid new area state undone next count records reads
    stored undo marks stop content rest sound stands =
    let Fine : List ℕ → Type 0 = λ b. IsSound b × StandsFor b content in
    let bodies : List (List ℕ) = map spelling stored.loaded.blocks in
    let at : IsAt area (seen mid) bodies =
    subst (λ b. IsAt area b bodies) (sym reads.same)
    (stands_there (seen old) area state next count stored records undone undo marks) in
    and_then moment left_since old mid new Fine (HoldsFirst area (seen mid) bodies records)
    (keeps_content seen may_leave moment left_since old mid reads content rest sound stands)
    (stop bodies at (reads_rest seen may_leave moment left_since old mid reads rest))
    (λ c holds.
    let here : HoldsFirst area (seen old) bodies records c =
    subst (λ b. HoldsFirst area b bodies records c) reads.same holds in (
      stop_sound (seen old) area state next count stored records undone undo marks c here,
      stop_stands (seen old) area state next count stored records undone undo marks c here content
          stands,
    ))

-- what holds where an area at rest has its blocks
pub where_it_stands : {D : Type 0} (seen : D → List ℕ) (may_leave : D → List ℕ → Type 0)
    (moment : D → ℕ) (left_since : D → ℕ → List ℕ → Type 0) (old mid : D) (area : Area)
    (state undone : State) (next count : ℕ) (records : List Record)
    → ReadsOnly seen may_leave moment left_since old mid →
    (stored : IsStored (seen old) area state next count) → Undo state records undone →
    AllByRecursion IsUndoRecord records → IsAtRest seen may_leave old
    → (X : Type 0) → ((bodies : List (List ℕ)) → IsAt area (seen mid) bodies →
    IsAtRest seen may_leave mid → X) → X
where_it_stands seen may_leave moment left_since old mid area state undone next count records reads
    stored undo marks rest X f =
    let bodies : List (List ℕ) = map spelling stored.loaded.blocks in
    f bodies (subst (λ b. IsAt area b bodies) (sym reads.same)
    (stands_there (seen old) area state next count stored records undone undo marks))
    (reads_rest seen may_leave moment left_since old mid reads rest)

no_blocks : (bs : List (List Record)) → AreBlocksOf [] bs → bs ≡ []
no_blocks [] are = refl
no_blocks (b ∷ bs) are = absurd (omega (arith, are.0))

-- where an opening undid nothing, there was nothing to write
pub nothing_undone : (old : List ℕ) (area after : Area) (state undone : State) (next count : ℕ)
    (records : List Record) (book : BookState (List Collection)) (new : List ℕ) →
    IsStored old area state next count → AllByRecursion IsUndoRecord records
    → IsAppended records area after old new → (o : IsOpened old book after new) → o.undoing ≡ [] →
    length records ≡ 0
nothing_undone old area after state undone next count records book new stored marks appended o
    none =
    let none_written : o.written ≡ [] =
    no_blocks o.written (subst (λ l. AreBlocksOf l o.written) none o.in_blocks) in
    let all : o.blocks ++ o.written ≡ o.blocks =
    ap (λ l. o.blocks ++ l) none_written ∙ append-nil o.blocks in
    let there : part (base_of after) (size_of after) old ≡ part (base_of area) (size_of area) old =
    ap (λ n. part n (size_of after) old) appended.same_base ∙
    ap (λ n. part (base_of area) n old) appended.same_size in
    let same : map spelling o.blocks ≡ map spelling stored.loaded.blocks =
    row_unique (map spelling o.blocks) (map spelling stored.loaded.blocks)
    (part (base_of area) (size_of area) old)
    (subst (λ b. IsRow (map spelling o.blocks) b) there o.is_read.row_is)
    stored.loaded.is_read.row_is in
    let long : length (row (map spelling (o.blocks ++ o.written))) ≡
    length (row (map spelling stored.loaded.blocks)) =
    ap (λ l. length (row (map spelling l))) all ∙ ap (λ l. length (row l)) same in
    let some : length (row (map spelling appended.written)) ≡ blocks_len (length records) =
    rows_len records appended.written marks appended.in_blocks in
    omega (arith, o.offset, long, appended.offset, stored.loaded.offset, some)
