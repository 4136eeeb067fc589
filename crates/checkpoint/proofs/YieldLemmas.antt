-- What bytes that hold blocks of records yield.
use Rattle.std.proofs.Common.{◌≡◌, ℕ, ◌+◌, ◌≤◌, List, [], ◌∷◌, ◌++◌, length, map, take, drop}
use Rattle.std.proofs.Common.{append_assoc, length-append, refl, sym, ◌∙◌, ap, subst, arith, None}
use Rattle.std.proofs.lemmas.List.{take-append-le, take-append-drop, take-take}
use Rattle.std.specs.List.{AllByRecursion}
use mathlib.Core.List.{IsPrefix}
use Rattle.calls.specs.declared.format.Format.{Format}
use Rattle.calls.specs.Formats.{Allows}
use Rattle.calls.specs.Contents.{Collection}
use Rattle.calls.specs.Transactions.{Transaction, Serial, committed, committed_after, Entry}
use Rattle.calls.specs.Transactions.{Leads, calls_of}
use Rattle.gate_block.specs.declared.area.Area.{Area}
use Rattle.gate_block.specs.Row.{IsRow, part}
use Rattle.gate_block.specs.Area.{size_of, bytes_of}
use Rattle.records.specs.declared.record.Record.{Record}
use Rattle.records.specs.Records.{spelling, IsRecord, AreRecords}
use Rattle.records.specs.Acts.{acts_of_record, acts_of, places}
use Rattle.steps.specs.Machines.{resting}
use Rattle.steps.specs.Machine.{IsSettled, Does}
use Rattle.steps.proofs.RecordRuns as played
use Rattle.steps.proofs.RecordRuns.{gathered, committed_append}
use Rattle.steps.proofs.Steps as steps
use Rattle.steps.proofs.LiveNumbers.{nobody}
use Rattle.steps.proofs.NamedContents.{serial_told}
use Rattle.records.proofs.Places.{places_append}
use Rattle.replay.specs.Steps.{State, Steps, Repeats}
use Rattle.replay.specs.Reading.{Unread, InJournal, Reads, AreAccepted, IsSound, last_named}
use Rattle.replay.specs.Journals.{Holds, records_in, StandsFor}
use Rattle.replay.proofs.Lists.{leads_append, flat_map-append}
use Rattle.boosted.proofs.Each.{each_front, each_back}
use Rattle.replay.proofs.CatalogLaws.{laws}
use Rattle.replay.proofs.Formats.{allows_then}
use Rattle.replay.proofs.OneFormat.{repeats_format, accepted_on, accepted_holds}
use Rattle.replay.proofs.RepeatLemmas.{records_append, read_records}
use Rattle.replay.proofs.Parts.{IsParts, journal_reads}
use Rattle.replay.proofs.Contents as image
use Rattle.replay.proofs.Contents.{parts, on_from_first}
use Rattle.checkpoint.specs.Stored.{IsLevel, StandIn}
use Rattle.checkpoint.specs.DiskHeads.{IsHeaded}
use Rattle.checkpoint.specs.Crash.{Yields, YieldsUpTo, committed_of}
use Rattle.catalog.specs.Meaning.{catalog_meaning, catalog_making}

-- ---- how many transactions records commit

place_of : (r : Record) (es : List (ℕ × Entry)) →
    length (committed_after es (acts_of_record r)) ≡ places (r ∷ [])
place_of (Record.Make kind name) es = refl
place_of (Record.Commit n) es = refl
place_of r es = refl

pub length-committed : (rs : List Record) (es : List (ℕ × Entry)) →
    length (committed_after es (acts_of rs)) ≡ places rs
length-committed [] es = refl
length-committed (r ∷ rs) es =
    let split = ap length (committed_append (acts_of_record r) (acts_of rs) es) in
    let both = length-append (committed_after es (acts_of_record r))
    (committed_after (gathered es (acts_of_record r)) (acts_of rs)) in
    let front = places_append (r ∷ []) rs in
    omega (
      arith,
      split,
      both,
      place_of r es,
      length-committed rs (gathered es (acts_of_record r)),
      front,
    )

-- more records commit more
pub committed_more : (rs more : List Record) →
    IsPrefix (committed_of rs) (committed_of (rs ++ more))
committed_more rs more = (
  committed_after (gathered [] (acts_of rs)) (acts_of more),
  sym (ap committed (flat_map-append acts_of_record rs more) ∙
      committed_append (acts_of rs) (acts_of more) []),
)

-- ---- beginnings

pub prefix_trans : (A B C : List Transaction) → IsPrefix A B → IsPrefix B C → IsPrefix A C
prefix_trans A B C p q = (p.0 ++ q.0, sym (append_assoc A p.0 q.0) ∙ ap (λ l. l ++ q.0) p.1 ∙ q.1)

-- the first m of a beginning that has so many are the first m of the whole
pub take_longer : (A B : List Transaction) (m : ℕ) → IsPrefix A B → m ≤ length A →
    take m B ≡ take m A
take_longer A B m p le = ap (take m) (sym p.1) ∙ take-append-le m A p.0 le

-- fewer of a list are a beginning of more of it
pub prefix_take : (A : List Transaction) (m n : ℕ) → m ≤ n → IsPrefix (take m A) (take n A)
prefix_take A m n le = (
  drop m (take n A),
  ap (λ l. l ++ drop m (take n A)) (sym (take-take m n A le)) ∙ take-append-drop m (take n A),
)

-- ---- what is yielded of fewer transactions is yielded of more

pub yields_more : (start : List Collection) (ts us : List Transaction) (m : ℕ) (c : List ℕ) →
    m ≤ length ts → IsPrefix ts us → Yields start ts (take m ts) c →
    Yields start us (take m us) c
yields_more start ts us m c few more y = record {
  sound = y.sound;
  content = y.content;
  stands = y.stands;
  kept = y.kept;
  begins = prefix_trans y.kept ts us y.begins more;
  holds = subst (λ l. IsPrefix l y.kept) (sym (take_longer ts us m more few)) y.holds;
  serial = y.serial;
}

-- what is known may be less
pub yields_fewer : (start : List Collection) (ts known fewer : List Transaction) (c : List ℕ) →
    IsPrefix fewer known → Yields start ts known c → Yields start ts fewer c
yields_fewer start ts known fewer c less y =
    record {
      sound = y.sound;
      content = y.content;
      stands = y.stands;
      kept = y.kept;
      begins = y.begins;
      holds = prefix_trans fewer known y.kept less y.holds;
      serial = y.serial;
    }

-- ---- what records lead to

-- Records that no live transaction precedes lead on by what they commit, whatever was known of
-- earlier ones, and always to one content.
abbrev Comes : List (ℕ × Entry) → List Record → List Collection → State → Type 0
Comes es rs start t = played.IsPlayed catalog_meaning catalog_making laws.rules es (acts_of rs)
    start t

module _ (format : Format) (start : List Collection) (wear : ℕ) (rs : List Record) (t : State)
    (run : Repeats rs (resting format start wear) t) where
  abbrev comes : (es : List (ℕ × Entry)) → Comes es rs start t
  comes es = played.all_repeated catalog_meaning catalog_making laws.rules rs es
      (resting format start wear) t start
      (steps.opened_sound catalog_meaning catalog_making laws.rules format start wear)
      (λ n running. absurd (nobody n running.live)) refl run

  told : (es : List (ℕ × Entry)) → Serial (committed_after es (acts_of rs)) start (comes es).content
  told es = serial_told catalog_meaning catalog_making (λ (s : List Collection). s)
      (λ s at c r h. h) (λ s at c r h. refl) (λ u v name kind m. m)
      (committed_after es (acts_of rs)) start (comes es).content (comes es).runs

  abbrev content : List Collection
  content = (comes []).content

  told_always : (es : List (ℕ × Entry)) → Serial (committed_after es (acts_of rs)) start content
  told_always es = subst (Serial (committed_after es (acts_of rs)) start)
      (steps.settles_once catalog_meaning catalog_making laws.rules t (comes es).content content
      (comes es).sound (comes es).settled (comes []).settled) (told es)

-- where two states are level, they settle at the same contents
level_settles : (u v : State) → IsLevel u v → (c : List Collection) →
    IsSettled catalog_meaning u c → IsSettled catalog_meaning v c
level_settles u v level c settled =
    subst (λ es. Leads (Does catalog_meaning) es c v.now) level.calls
    (subst (Leads (Does catalog_meaning) (calls_of (map (λ e. e.1) u.entries)) c) level.now
    settled)

module _ (format : Format) (start : List Collection) (wear : ℕ) (all : List Record) (end : State)
    (blocks : List (List Record)) (covered : List Record)
    (stands : StandIn format start wear all end blocks covered)
    (good : AllByRecursion (IsRecord None) all) (kept : List (List Record))
    (later : List Record) (split : stands.since ≡ records_in kept ++ later) where
  -- where the kept records lead, from the start and from what the blocks are read up to
  abbrev mid : (u v : State) × Repeats (records_in kept) stands.there u ×
      Repeats (records_in kept) stands.base v × IsLevel u v
  mid = stands.along (records_in kept) later split

  abbrev stored : List Record
  stored = covered ++ records_in kept

  from_start : Repeats stored (resting format start wear) mid.0
  from_start = leads_append Steps covered (records_in kept) (resting format start wear) stands.there
      mid.0
      stands.led mid.2

  abbrev base_parts : IsParts (records_in blocks) stands.base
  base_parts = parts stands.are_read.version (records_in blocks) stands.are_read.next stands.base
      stands.are_read.count
      stands.are_read.accepted

  run : Repeats (base_parts.journal ++ records_in kept) base_parts.first mid.1
  run = on_from_first stands.are_read.version (records_in blocks) stands.are_read.next stands.base
      stands.are_read.count
      stands.are_read.accepted (records_in kept) mid.1 mid.3

  is : records_in (blocks ++ kept) ≡ records_in blocks ++ records_in kept
  is = flat_map-append (λ rs. rs) blocks kept

  records : all ≡ stored ++ later
  records = stands.split ∙ ap (λ l. covered ++ l) split ∙
      sym (append_assoc covered (records_in kept) later)

  kept_good : AllByRecursion (IsRecord None) (records_in kept)
  kept_good = each_back (IsRecord None) covered (records_in kept)
      (each_front (IsRecord None) stored later
      (subst (AllByRecursion (IsRecord None)) records good))

  all_good : AreRecords None (records_in (blocks ++ kept))
  all_good = subst (AreRecords None) (sym is)
      (records_append None (records_in blocks) (records_in kept) stands.are_read.good
      (read_records (last_named None (records_in blocks)) (records_in kept) kept_good))

  -- so many are read, up to there
  abbrev more : (n k : ℕ) × Leads Reads (records_in kept)
      (InJournal stands.are_read.next stands.base stands.are_read.count) (InJournal n mid.1 k)
  more = journal_reads (records_in kept) stands.are_read.next stands.base mid.1
      stands.are_read.count mid.3

  -- the disk may have areas of their format
  allowed : (version : Format) → Allows version format → Allows version mid.1.format
  allowed version of_book =
      let later : Allows format stands.base.format =
      subst (λ f. Allows f stands.base.format) stands.of_book (subst (Allows end.format)
      (repeats_format stands.since stands.base stands.state stands.repeats)
      stands.lags.format) in
      subst (Allows version) (sym (repeats_format (records_in kept) stands.base mid.1 mid.3))
      (allows_then version format stands.base.format of_book later)

  accepted : (version : Format) → Allows version format →
      AreAccepted version (records_in (blocks ++ kept)) more.0 mid.1 more.1
  accepted version of_book =
      accepted_on stands.are_read.version version (records_in (blocks ++ kept)) more.0 mid.1 more.1
      (subst (λ l. AreAccepted stands.are_read.version l more.0 mid.1 more.1) (sym is)
      (leads_append Reads (records_in blocks) (records_in kept) (Unread stands.are_read.version)
      (InJournal stands.are_read.next stands.base stands.are_read.count)
      (InJournal more.0 mid.1 more.1) stands.are_read.accepted more.2))
      all_good (allowed version of_book)

  -- the bytes hold the blocks of a row in the area that the head picks
  module _ (area : Area) (c : List ℕ) (headed : IsHeaded format area c)
      (row : IsRow (map spelling (blocks ++ kept)) (bytes_of area c)) where
    abbrev holds : Holds c (blocks ++ kept)
    holds = accepted_holds headed.version (size_of area) c (blocks ++ kept) more.0 mid.1 more.1
        headed.header
        (subst (λ b. IsRow (map spelling (blocks ++ kept)) (part b (size_of area) c))
        (sym headed.picks) row) all_good (accepted headed.version headed.allowed)

    is_sound : IsSound c
    is_sound = record {
      blocks = blocks ++ kept;
      holds = holds;
      good = all_good;
      next = more.0;
      end = mid.1;
      count = more.1;
      accepted = accepted headed.version headed.allowed;
    }

  abbrev now : List Collection
  now = content format start wear stored mid.0 from_start

  -- from the image on the records lead to the same content as from the start on
  same_content : image.content (records_in blocks) stands.base base_parts
      (base_parts.journal ++ records_in kept) mid.1 run ≡ now
  same_content =
      let last = comes format start wear stored mid.0 from_start [] in
      steps.settles_once catalog_meaning catalog_making laws.rules mid.1
      (image.content (records_in blocks) stands.base base_parts
      (base_parts.journal ++ records_in kept) mid.1 run) now
      (image.end_sound (records_in blocks) stands.base base_parts
      (base_parts.journal ++ records_in kept) mid.1 run)
      (image.end_settled (records_in blocks) stands.base base_parts
      (base_parts.journal ++ records_in kept) mid.1 run)
      (level_settles mid.0 mid.1 mid.4 now last.settled)

  stands_for : (c : List ℕ) → Holds c (blocks ++ kept) → StandsFor c now
  stands_for c holds = subst (StandsFor c) same_content
      (image.stands_for (records_in blocks) stands.base base_parts
      (base_parts.journal ++ records_in kept) mid.1 run c (blocks ++ kept) holds
      (is ∙ ap (λ l. l ++ records_in kept) base_parts.is ∙
      append_assoc base_parts.image base_parts.journal (records_in kept)))

  -- a row of the blocks with others behind them, in the area that the head picks, yields what is
  -- known
  pub row_yields : (area : Area) (m : ℕ) (c : List ℕ) →
      m ≤ places covered + places (records_in kept) → IsHeaded format area c →
      IsRow (map spelling (blocks ++ kept)) (bytes_of area c) → YieldsUpTo start all m c
  row_yields area m c few headed row =
      let ks : List Transaction = committed_of stored in
      let longer : IsPrefix ks (committed_of all) =
      subst (λ rs. IsPrefix ks (committed_of rs)) (sym records) (committed_more stored later) in
      let enough : m ≤ length ks = omega
      (arith, few, length-committed stored [], places_append covered (records_in kept)) in
      record {
        sound = is_sound area c headed row;
        content = now;
        stands = stands_for c (holds area c headed row);
        kept = ks;
        begins = longer;
        holds = subst (λ l. IsPrefix l ks) (sym (take_longer ks (committed_of all) m longer enough))
            (drop m ks, take-append-drop m ks);
        serial = told_always format start wear stored mid.0 from_start [];
      }

-- all records lead to where the covered ones and the others lead
pub all_lead : (format : Format) (start : List Collection) (wear : ℕ) (all : List Record)
    (end : State)
    (blocks : List (List Record)) (covered : List Record)
    (stands : StandIn format start wear all end blocks covered) →
    Repeats all (resting format start wear) stands.trail
all_lead format start wear all end blocks covered stands =
    subst (λ rs. Repeats rs (resting format start wear) stands.trail) (sym stands.split)
    (leads_append Steps covered stands.since (resting format start wear) stands.there stands.trail
    stands.led stands.leads)
