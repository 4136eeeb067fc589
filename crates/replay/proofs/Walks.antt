-- Blocks of records of an undoing that are appended one by one.
use Rattle.std.proofs.Common.{◌≡◌, ◌⊎◌, inl, inr, ℕ, ◌+◌, ◌-◌, ◌^◌, ◌<◌, ◌≤◌, List, [], ◌∷◌, ◌++◌}
use Rattle.std.proofs.Common.{length, take, drop, map, refl, sym, ◌∙◌, ap, subst, arith}
use Rattle.std.proofs.Common.{length-append, take-append-drop, append_assoc, false, true≢false, Err}
use Rattle.std.proofs.lemmas.List.{map-append, append-nil, take_all, drop_all, drop-drop}
use Rattle.std.specs.List.{AllByRecursion}
use Rattle.calls.specs.declared.refusal.Refusal.{Refusal}
use Rattle.disk_model.specs.Disk.{LeavesOnly, IsAtRest, Rises}
use Rattle.disk_model.proofs.Walk.{started, and_then, leaves_now}
use Rattle.gate_block.specs.declared.area.Area.{Area}
use Rattle.gate_block.specs.Answers.{IsAppendAnswer}
use Rattle.gate_block.specs.Row.{block, row, IsRow, IsBlockOf, SameOutside, part}
use Rattle.gate_block.specs.Area.{base_of, size_of, offset_of, has_failed, bytes_of, IsReady}
use Rattle.gate_block.specs.Area.{LeavesBlocks, LeavesElsewhere}
use Rattle.gate_block.proofs.Facts.{ready, length-row_add, length-block}
use Rattle.gate_block.proofs.Parts.{outside_twice}
use Rattle.records.specs.declared.record.Record.{Record}
use Rattle.records.specs.Records.{spelling}
use Rattle.replay.specs.Journals.{records_in}
use Rattle.replay.specs.Undoing.{IsUndoRecord, AreBlocksOf, blocks_len}
use Rattle.replay.specs.Appending.{IsAt, HoldsFirst, IsAppended}
use Rattle.replay.proofs.Lists.{flat_map-append, upto_or}
use Rattle.replay.proofs.UndoRecords.{in_blocks, spelling_len, all_take, all_drop, group_len}

-- the first 64, or all where there are fewer
first_group : {X : Type 0} (xs : List X) (n : ℕ) →
    ((n ≡ 64) × (64 ≤ length xs)) ⊎ ((n ≡ length xs) × (length xs ≤ 64)) →
    (take n xs ≡ take 64 xs) × (drop n xs ≡ drop 64 xs)
first_group xs n (inl full) = (ap (λ k. take k xs) full.0, ap (λ k. drop k xs) full.0)
first_group xs n (inr all) = (
  take_all n xs (omega (arith, all.0)) ∙ sym (take_all 64 xs all.1),
  drop_all n xs (omega (arith, all.0)) ∙ sym (drop_all 64 xs all.1),
)

-- the lesser of the two
lesser : (n m : ℕ) → (n ≤ 64 → m ≡ n) → (64 ≤ n → m ≡ 64) →
    ((m ≡ 64) × (64 ≤ n)) ⊎ ((m ≡ n) × (n ≤ 64))
lesser n m few many =
    elim (upto_or n 64) [
      | inl le ↦ inr (few le, le)
      | inr lt ↦ inl (many (omega (arith, lt)), omega (arith, lt))
    ]

pub grouped : {X : Type 0} (rest group behind : List X) (mid : ℕ) → group ≡ take mid rest →
    behind ≡ drop mid rest → (length rest ≤ 64 → mid ≡ length rest) →
    (64 ≤ length rest → mid ≡ 64) → (group ≡ take 64 rest) × (behind ≡ drop 64 rest)
grouped rest group behind mid front back few many =
    let same = first_group rest mid (lesser (length rest) mid few many) in
    (front ∙ same.0, back ∙ same.1)

-- bytes are what stands before a part, the part, and what stands behind it
in_parts : (base size : ℕ) (bytes : List ℕ) →
    bytes ≡ take base bytes ++ (part base size bytes ++ drop (base + size) bytes)
in_parts base size bytes =
    sym (take-append-drop base bytes) ∙
    ap (λ l. take base bytes ++ l) (sym (take-append-drop size (drop base bytes)) ∙
    ap (λ l. part base size bytes ++ l)
    (drop-drop size base bytes ∙ ap (λ n. drop n bytes) (omega arith)))

-- bytes that are the same in a part and outside it are the same
same_whole : (base size : ℕ) (old new : List ℕ) → SameOutside base size old new →
    part base size new ≡ part base size old → new ≡ old
same_whole base size old new outside inside =
    in_parts base size new ∙ ap (λ l. l ++ (part base size new ++ drop (base + size) new))
    outside.before
    ∙ ap (λ l. take base old ++ (l ++ drop (base + size) new)) inside ∙
    ap (λ l. take base old ++ (part base size old ++ l)) outside.after ∙
    sym (in_parts base size old)

outside_from : (base size : ℕ) (a b c : List ℕ) → SameOutside base size a b →
    SameOutside base size a c → SameOutside base size b c
outside_from base size a b c first second = record {
  before = second.before ∙ sym first.before;
  after = second.after ∙ sym first.after;
  same_size = second.same_size ∙ sym first.same_size;
}

pub no_change : (base size : ℕ) (bytes : List ℕ) → SameOutside base size bytes bytes
no_change base size bytes = record { before = refl; after = refl; same_size = refl }

-- a count that rose since a moment rose since an earlier one
pub rises_before : (a b c : ℕ) → a ≤ b → b ≤ c → Rises b c → Rises a c
rises_before a b c early late rises =
    λ low. elim (upto_or (2 ^ 64 - 1) b) [
      | inl high ↦ omega (arith, low, high, late)
      | inr under ↦ omega (arith, early, rises under)
    ]

bytes_same : (a b : Area) (bytes : List ℕ) → base_of a ≡ base_of b → size_of a ≡ size_of b →
    bytes_of a bytes ≡ bytes_of b bytes
bytes_same a b bytes base size =
    ap (λ n. part n (size_of a) bytes) base ∙ ap (λ n. part (base_of b) n bytes) size

pub block_len : (body bytes : List ℕ) → IsBlockOf body bytes → length bytes ≡ 6 + length body
block_len body bytes is = omega
    (arith, ap length is.is, length-append (block body) (0 ∷ []), length-block body)

module _ {D : Type 0} (seen : D → List ℕ) (may_leave : D → List ℕ → Type 0) (moment : D → ℕ)
    (left_since : D → ℕ → List ℕ → Type 0) (is_honest : D → Type 0) (fault_count : D → ℕ) where
  -- Blocks of the records so far are behind those that were there.
  pub record IsAppending (records rest : List Record) (before area : Area) (old disk : D)
      (buffer : List ℕ) (capacity : ℕ) : Type 0 where
    pub done : List (List Record)
    pub split : records ≡ records_in done ++ rest
    pub in_blocks : (bs : List (List Record)) → AreBlocksOf rest bs →
        AreBlocksOf records (done ++ bs)
    pub undo : AllByRecursion IsUndoRecord rest
    pub same_base : base_of area ≡ base_of before
    pub same_size : size_of area ≡ size_of before
    pub fine : has_failed area ≡ false
    pub offset : offset_of area ≡ offset_of before + length (row (map spelling done))
    pub fits : offset_of area + blocks_len (length rest) < size_of area
    pub inside : base_of area + size_of area ≤ length (seen disk)
    pub counts : (bodies : List (List ℕ)) → IsAt before (seen old) bodies →
        IsAt area (seen disk) (bodies ++ map spelling done)
    pub elsewhere : SameOutside (base_of before) (size_of before) (seen old) (seen disk)
    pub unwritten : done ≡ [] → disk ≡ old
    pub honest : is_honest disk → is_honest old
    pub faults : fault_count old ≤ fault_count disk
    pub stop : (bodies : List (List ℕ)) → IsAt before (seen old) bodies →
        IsAtRest seen may_leave old → LeavesOnly moment left_since old disk
        (HoldsFirst before (seen old) bodies records)
    pub durable : (bodies : List (List ℕ)) → IsAt before (seen old) bodies →
        IsAtRest seen may_leave old → IsAtRest seen may_leave disk
    pub head : 5 ≤ length buffer
    pub room : 582 ≤ capacity

  -- a stop before the first block leaves none of them
  holds_none : (area : Area) (old : List ℕ) (bodies : List (List ℕ)) (records : List Record) →
      IsAt area old bodies → HoldsFirst area old bodies records old
  holds_none area old bodies records at = record {
    front = [];
    more = records;
    is = refl;
    row_is = subst (λ b. IsRow b (bytes_of area old)) (sym (append-nil bodies)) at.row_is;
    elsewhere = no_change (base_of area) (size_of area) old;
  }

  at_nothing : (area : Area) (bytes : List ℕ) (bodies : List (List ℕ)) → IsAt area bytes bodies →
      IsAt area bytes (bodies ++ map spelling [])
  at_nothing area bytes bodies at = subst (IsAt area bytes) (sym (append-nil bodies)) at

  pub appending_starts : (records : List Record) (area : Area) (disk : D) (buffer : List ℕ)
      (capacity : ℕ) → ((c : List ℕ) → left_since disk (moment disk) c → may_leave disk c) →
      AllByRecursion IsUndoRecord records → has_failed area ≡ false
      → offset_of area + blocks_len (length records) < size_of area →
      base_of area + size_of area ≤ length (seen disk) → 5 ≤ length buffer → 582 ≤ capacity →
      IsAppending records records area area disk disk buffer capacity
  appending_starts records area disk buffer capacity only_now undo fine fits inside head room =
      record {
        done = [];
        split = refl;
        in_blocks = λ bs are. are;
        undo = undo;
        same_base = refl;
        same_size = refl;
        fine = fine;
        offset = omega arith;
        fits = fits;
        inside = inside;
        counts = λ bodies at. at_nothing area (seen disk) bodies at;
        elsewhere = no_change (base_of area) (size_of area) (seen disk);
        unwritten = λ none. refl;
        honest = λ true_read. true_read;
        faults = omega arith;
        stop = λ bodies at rest. started moment left_since disk
            (HoldsFirst area (seen disk) bodies records)
            (λ c left. subst (HoldsFirst area (seen disk) bodies records)
            (sym (rest c (only_now c left))) (holds_none area (seen disk) bodies records at));
        durable = λ bodies at rest. rest;
        head = head;
        room = room;
      }

  -- one append more
  module _ {records rest : List Record} {before area : Area} {old disk : D} {buffer : List ℕ}
      {capacity : ℕ} (l : IsAppending records rest before area old disk buffer capacity)
      (some : 0 < length rest)
      (group behind : List Record) (group_is : group ≡ take 64 rest)
      (behind_is : behind ≡ drop 64 rest) (bytes : List ℕ)
      (is_block : IsBlockOf (spelling group) bytes) (after : Area) (new : D) where
    undo_group : AllByRecursion IsUndoRecord group
    undo_group = subst (AllByRecursion IsUndoRecord) (sym group_is)
        (all_take IsUndoRecord 64 rest l.undo)

    abbrev all_done : List (List Record)
    all_done = l.done ++ group ∷ []

    split_on : records ≡ records_in all_done ++ behind
    split_on =
        l.split ∙ ap (λ x. records_in l.done ++ x)
        (sym (take-append-drop 64 rest) ∙ ap (λ x. x ++ drop 64 rest) (sym group_is) ∙
        ap (λ x. group ++ x) (sym behind_is))
        ∙ sym (append_assoc (records_in l.done) group behind) ∙
        ap (λ x. x ++ behind) (sym (flat_map-append (λ rs. rs) l.done (group ∷ []) ∙
        ap (λ x. records_in l.done ++ x) (append-nil group)))

    bodies_on : (bodies : List (List ℕ)) →
        (bodies ++ map spelling l.done) ++ spelling group ∷ [] ≡ bodies ++ map spelling all_done
    bodies_on bodies = append_assoc bodies (map spelling l.done) (spelling group ∷ []) ∙
        ap (λ x. bodies ++ x) (sym (map-append spelling l.done (group ∷ [])))

    group_fits : offset_of area + length bytes + blocks_len (length behind) ≤ size_of area
    group_fits =
        omega (
          arith,
          l.fits,
          block_len (spelling group) bytes is_block,
          spelling_len group undo_group,
          group_len rest some,
          ap length group_is,
          ap (λ x. blocks_len (length x)) behind_is,
        )

    not_full : (size_of area < offset_of area + length bytes) → ⊥
    not_full full = omega (arith, full, group_fits)

    -- where it is refused, the disk failed
    pub fault_alone : (e : Refusal) → fault_count disk ≤ fault_count new →
        IsAppendAnswer (has_failed area) (has_failed after)
        (size_of area < offset_of area + length bytes)
        (Rises (fault_count disk) (fault_count new)) (Err e) →
        (e ≡ Refusal.Fault) × Rises (fault_count old) (fault_count new)
    fault_alone Refusal.Full later answer = absurd (not_full answer.2)
    fault_alone Refusal.Failed later answer = absurd (true≢false (sym answer.0 ∙ l.fine))
    fault_alone Refusal.Fault later answer = (
      refl,
      rises_before (fault_count old) (fault_count disk) (fault_count new) l.faults later
          answer.3,
    )
    fault_alone e later answer = absurd answer

    is_ready : (bodies : List (List ℕ)) → IsAt before (seen old) bodies →
        IsAtRest seen may_leave old → IsReady seen may_leave area disk
        (bodies ++ map spelling l.done)
    is_ready bodies at at_rest =
        let here = l.counts bodies at in
        ready seen may_leave area disk (bodies ++ map spelling l.done) here.row_is here.offset
        (l.durable bodies at at_rest)

    -- what a stop in it leaves
    holds_first : (bodies : List (List ℕ)) → IsAt before (seen old) bodies →
        IsAtRest seen may_leave old → (c : List ℕ) →
        LeavesBlocks (may_leave disk) area (bodies ++ map spelling l.done) (spelling group) c →
        HoldsFirst before (seen old) bodies records c
    holds_first bodies at at_rest c leaves =
        let d = leaves.elsewhere in
        let outside : SameOutside (base_of before) (size_of before) (seen old) c =
        outside_twice (base_of before) (size_of before) (seen old) (seen disk) c l.elsewhere
        (subst (λ n. SameOutside n (size_of before) (seen disk) c) l.same_base
        (subst (λ n. SameOutside (base_of area) n (seen disk) c) l.same_size
        (subst (λ x. SameOutside (base_of area) (size_of area) x c)
        (l.durable bodies at at_rest d.0 d.1) d.2))) in
        let same : bytes_of area c ≡ bytes_of before c =
        bytes_same area before c l.same_base l.same_size in
        elim leaves.blocks [
          | inl without ↦ record {
            front =
                l.done;
            more = rest;
            is = l.split;
            row_is = subst (IsRow (bodies ++ map spelling l.done)) same without;
            elsewhere = outside;
          }
          | inr with_it ↦ record {
            front =
                all_done;
            more = behind;
            is = split_on;
            row_is = subst (IsRow (bodies ++ map spelling all_done)) same
                (subst (λ b. IsRow b (bytes_of area c)) (bodies_on bodies) with_it);
            elsewhere =
                outside;
          }
        ]

    module _ (any_moment : (bodies : List (List ℕ)) (body : List ℕ) → IsBlockOf body bytes →
        IsReady seen may_leave area disk bodies →
        LeavesOnly moment left_since disk new
        (LeavesBlocks (may_leave disk) area bodies body)) where
      pub stop_on : (bodies : List (List ℕ)) → IsAt before (seen old) bodies →
          IsAtRest seen may_leave old → LeavesOnly moment left_since old new
          (HoldsFirst before (seen old) bodies records)
      stop_on bodies at at_rest =
          and_then moment left_since old disk new (HoldsFirst before (seen old) bodies records)
          (LeavesBlocks (may_leave disk) area (bodies ++ map spelling l.done) (spelling group))
          (l.stop bodies at at_rest) (any_moment (bodies ++ map spelling l.done) (spelling group)
          is_block (is_ready bodies at at_rest)) (holds_first bodies at at_rest)

      -- where it is done
      module _ (fine : has_failed after ≡ false) (same_base : base_of after ≡ base_of area)
          (same_size : size_of after ≡ size_of area)
          (offset : offset_of after + 1 ≡ offset_of area + length bytes)
          (kept : (bodies : List (List ℕ)) (body : List ℕ) → IsBlockOf body bytes →
          IsReady seen may_leave area disk bodies →
          IsReady seen may_leave after new (bodies ++ body ∷ []))
          (counts : (bodies : List (List ℕ)) (body : List ℕ) → IsBlockOf body bytes →
          IsRow bodies (bytes_of area (seen disk)) → offset_of area ≡ length (row bodies) →
          IsRow (bodies ++ body ∷ []) (bytes_of after (seen new)))
          (any_elsewhere : LeavesOnly moment left_since disk new
          (LeavesElsewhere (may_leave disk) area))
          (counts_now : (t : ℕ) (c : List ℕ) → t ≤ moment new → may_leave new c →
          left_since new t c)
          (elsewhere : SameOutside (base_of area) (size_of area) (seen disk) (seen new))
          (honest : is_honest new → is_honest disk)
          (faults : fault_count disk ≤ fault_count new) where
        durable_on : (bodies : List (List ℕ)) → IsAt before (seen old) bodies →
            IsAtRest seen may_leave old → IsAtRest seen may_leave new
        durable_on bodies at at_rest = λ c left.
            let is_kept = kept (bodies ++ map spelling l.done) (spelling group) is_block
            (is_ready bodies at at_rest) in
            let there : LeavesElsewhere (may_leave disk) area c =
            leaves_now moment left_since disk new (LeavesElsewhere (may_leave disk) area)
            (may_leave new) any_elsewhere counts_now c left in
            let outside : SameOutside (base_of area) (size_of area) (seen disk) c =
            subst (λ x. SameOutside (base_of area) (size_of area) x c)
            (l.durable bodies at at_rest there.0 there.1) there.2 in
            same_whole (base_of area) (size_of area) (seen new) c
            (outside_from (base_of area) (size_of area) (seen disk) (seen new) c elsewhere
            outside)
            (sym (bytes_same after area c same_base same_size) ∙ is_kept.at_rest c left ∙
            bytes_same after area (seen new) same_base same_size)

        offset_on : offset_of after ≡ offset_of before + length (row (map spelling all_done))
        offset_on =
            omega (
              arith,
              offset,
              block_len (spelling group) bytes is_block,
              l.offset,
              length-row_add (map spelling l.done) (spelling group),
              ap (λ b. length (row b)) (map-append spelling l.done (group ∷ [])),
            )

        is_at : (bodies : List (List ℕ)) → IsAt before (seen old) bodies →
            IsAt after (seen new) (bodies ++ map spelling all_done)
        is_at bodies at =
            let here = l.counts bodies at in
            subst (IsAt after (seen new)) (bodies_on bodies) (record {
              row_is = counts (bodies ++ map spelling l.done) (spelling group) is_block here.row_is
                  here.offset;
              offset = omega (
                arith,
                offset,
                block_len (spelling group) bytes is_block,
                here.offset,
                length-row_add (bodies ++ map spelling l.done) (spelling group),
              );
            })

        not_nothing : {X : Type 0} (xs : List X) (x : X) → xs ++ x ∷ [] ≡ [] → ⊥
        not_nothing xs x e = omega (arith, ap length e, length-append xs (x ∷ []))

        more_blocks : (bs : List (List Record)) → AreBlocksOf behind bs →
            AreBlocksOf records (all_done ++ bs)
        more_blocks bs are =
            subst (AreBlocksOf records) (sym (append_assoc l.done (group ∷ []) bs))
            (l.in_blocks (group ∷ bs) (
              some,
              group_is,
              subst (λ x. AreBlocksOf x bs) behind_is are,
            ))

        pub appends_on : 5 ≤ length bytes → (larger : ℕ) → 582 ≤ larger →
            IsAppending records behind before after old new bytes larger
        appends_on head larger room = record {
          done = all_done;
          split = split_on;
          in_blocks = more_blocks;
          undo = subst (AllByRecursion IsUndoRecord) (sym behind_is)
              (all_drop IsUndoRecord 64 rest l.undo);
          same_base = same_base ∙ l.same_base;
          same_size = same_size ∙ l.same_size;
          fine = fine;
          offset = offset_on;
          fits = omega (arith, offset, group_fits, same_size);
          inside = omega (arith, l.inside, same_base, same_size, elsewhere.same_size);
          counts = is_at;
          elsewhere = outside_twice (base_of before) (size_of before) (seen old) (seen disk)
              (seen new) l.elsewhere (subst (λ n. SameOutside n (size_of before) (seen disk)
              (seen new)) l.same_base (subst (λ n. SameOutside (base_of area) n (seen disk)
              (seen new)) l.same_size elsewhere));
          unwritten = λ none. absurd (not_nothing l.done group none);
          honest = λ true_read. l.honest (honest true_read);
          faults = omega (arith, l.faults, faults);
          stop = stop_on;
          durable = durable_on;
          head = head;
          room = room;
        }

  -- where there is no record, no block is written
  pub nothing_written : {records rest : List Record} {before area : Area} {old disk : D}
      {buffer : List ℕ} {capacity : ℕ} →
      IsAppending records rest before area old disk buffer capacity → length records ≡ 0 →
      disk ≡ old
  nothing_written {records} {rest} l none = let blocks = in_blocks rest in
      l.unwritten (no_block records l.done blocks.0 none (l.in_blocks blocks.0 blocks.1))
    where
      no_block : (records : List Record) (done bs : List (List Record)) → length records ≡ 0 →
          AreBlocksOf records (done ++ bs) → done ≡ []
      no_block records [] bs none are = refl
      no_block records (b ∷ done) bs none are = absurd (omega (arith, none, are.0))

  -- all are appended where none is left
  pub appended : {records rest : List Record} {before area : Area} {old disk : D} {buffer : List ℕ}
      {capacity : ℕ} → IsAppending records rest before area old disk buffer capacity →
      length rest ≡ 0 → IsAppended records before area (seen old) (seen disk)
  appended {records} {rest} {before} {area} {old} {disk} l none =
      let blocks = l.in_blocks [] (no_rest rest none) in record {
        written = l.done;
        in_blocks = subst (AreBlocksOf records) (append-nil l.done) blocks;
        same_base = l.same_base;
        same_size = l.same_size;
        fine = l.fine;
        offset = l.offset;
        counts = λ bodies at. (l.counts bodies at).row_is;
        elsewhere = l.elsewhere;
        unwritten = λ empty. ap seen (l.unwritten empty);
      }
    where
      no_rest : (xs : List Record) → length xs ≡ 0 → xs ≡ []
      no_rest [] e = refl
      no_rest (x ∷ xs) e = absurd (omega (arith, e))
