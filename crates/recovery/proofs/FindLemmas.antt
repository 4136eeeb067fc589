-- Why a store could not be read, from why its head or its area could not be.
use Rattle.std.proofs.Common.{◌≡◌, ◌⊎◌, ℕ, ◌+◌, ◌*◌, List, map, refl, sym, ◌∙◌, ap, subst}
use Rattle.calls.specs.declared.format.Format.{Format}
use Rattle.calls.specs.declared.refusal.Refusal.{Refusal}
use Rattle.gate_block.specs.declared.area.Area.{Area}
use Rattle.gate_block.specs.Row.{IsRow, part}
use Rattle.gate_block.specs.Area.{base_of, size_of, offset_of}
use Rattle.checkpoint.specs.Keepers.{IsOneOfTwo}
use Rattle.records.specs.declared.record.Record.{Record}
use Rattle.records.specs.Records.{spelling}
use Rattle.replay.specs.Journals.{IsHeader, records_in}
use Rattle.replay.proofs.Formats.{one_version}
use Rattle.gate_block.specs.Layout.{base_in_use}
use Rattle.recovery.specs.Heads.{IsHeadRefusal}
use Rattle.replay.specs.Steps.{State}
use Rattle.replay.specs.Reading.{AreAccepted, IsSound}
use Rattle.recovery.specs.Loading.{IsLoaded}
use Rattle.recovery.specs.declared.report.Report.{Report}
use Rattle.recovery.specs.Finding.{IsStored, IsFound}
use Rattle.recovery.specs.Openings.{AreSound, IsFirstFault, IsSpoilt, IsDamagedAt, IsLoadRefusal}
use Rattle.recovery.specs.Openings.{IsFindRefusal, IsOpenRefusal, IsRead, IsReport}
use Rattle.recovery.proofs.LoadLemmas.{Spoils}
use Rattle.recovery.proofs.OpenLemmas.{one_size}

-- sound bytes hold blocks that an opening takes
sound_blocks : (bytes : List ℕ) (version : Format) (size base : ℕ) → IsHeader version size bytes →
    base ≡ base_in_use size bytes → IsSound bytes →
    (blocks : List (List Record)) × AreSound version base size bytes blocks
sound_blocks bytes version size base header picks sound =
    let same : sound.holds.size ≡ size =
    one_size sound.holds.version version sound.holds.size size bytes sound.holds.header header in
    let said : sound.holds.version ≡ version = one_version sound.holds.version version
    (sym sound.holds.header.letters ∙ header.letters) in
    let at : base_in_use sound.holds.size bytes ≡ base =
    ap (λ n. base_in_use n bytes) same ∙ sym picks in
    let there : part (base_in_use sound.holds.size bytes) sound.holds.size bytes ≡
    part base size bytes = ap (λ b. part b sound.holds.size bytes) at ∙
    ap (λ n. part base n bytes) same in (
      sound.blocks,
      record {
        next = sound.next;
        end = sound.end;
        count = sound.count;
        is_read = record {
          good = sound.good;
          row_is = subst (λ b. IsRow (map spelling sound.blocks) b) there sound.holds.row;
          accepted = subst (λ v. AreAccepted v (records_in sound.blocks) sound.next sound.end
              sound.count) said sound.accepted;
        };
      },
    )

-- an area in use that is spoilt
spoilt_bytes : (bytes : List ℕ) (version : Format) (size base place : ℕ) →
    IsHeader version size bytes →
    base ≡ base_in_use size bytes → IsSpoilt version base size bytes place → IsDamagedAt bytes place
spoilt_bytes bytes version size base place header picks spoilt = record {
  version = version;
  size = size;
  header = header;
  fault = subst (λ b. IsFirstFault version b (part b size bytes) place) picks spoilt.fault;
  unsound = λ sound. let taken = sound_blocks bytes version size base header picks sound in
      spoilt.unsound taken.0 taken.1;
}

pub head_find_refusal : (risen no_head : Type 0) (is_damaged : ℕ → Type 0) (e : Refusal) →
    IsHeadRefusal risen no_head e → IsFindRefusal risen no_head is_damaged e
head_find_refusal risen no_head is_damaged Refusal.Fault why = why
head_find_refusal risen no_head is_damaged Refusal.NotAStore why = why
head_find_refusal risen no_head is_damaged e why = absurd why

-- no memory is wanted for a head
pub not_starved : (risen no_head : Type 0) (e : Refusal) → IsHeadRefusal risen no_head e →
    e ≡ Refusal.NoMemory → ⊥
not_starved risen no_head e why starved = subst (IsHeadRefusal risen no_head) starved why

-- why a load was refused, as why the whole is
pub load_find_refusal : (risen rises no_head is_honest : Type 0) (bytes : List ℕ)
    (version : Format) (size base : ℕ)
    (e : Refusal) → (risen → rises) →
    (is_honest → IsHeader version size bytes × (base ≡ base_in_use size bytes)) →
    IsLoadRefusal risen (Spoils is_honest version base size bytes) e
    → IsFindRefusal rises no_head (λ place. is_honest → IsDamagedAt bytes place) e
load_find_refusal risen rises no_head is_honest bytes version size base Refusal.NoMemory f header
    why = tt
load_find_refusal risen rises no_head is_honest bytes version size base Refusal.Fault f header why =
    f why
load_find_refusal risen rises no_head is_honest bytes version size base (Refusal.Damaged place) f
    header
    why = λ true_read. spoilt_bytes bytes version size base place (header true_read).0
    (header true_read).1
    (why true_read)
load_find_refusal risen rises no_head is_honest bytes version size base e f header why = absurd why

-- the area that the head picks was loaded
pub stored_there : (bytes : List ℕ) (area : Area) (version : Format) (base size : ℕ) (state : State)
    (next count : ℕ) →
    IsHeader version size bytes → base ≡ base_in_use size bytes → base_of area ≡ base →
    size_of area ≡ size → IsLoaded version base size bytes state next count (offset_of area) →
    IsStored bytes area state next count
stored_there bytes area version base size state next count header picks base_is size_is loaded =
    record {
      version = version;
      header = subst (λ n. IsHeader version n bytes) (sym size_is) header;
      picks = base_is ∙ picks ∙ ap (λ n. base_in_use n bytes) (sym size_is);
      loaded = subst (λ b. IsLoaded version b (size_of area) bytes state next count
          (offset_of area))
          (sym base_is) (subst (λ n. IsLoaded version base n bytes state next count
          (offset_of area))
          (sym size_is) loaded);
    }

-- a store that was found is in one of the two areas
pub one_of_two : (area : Area) (base size bytes : ℕ) → base_of area ≡ base → size_of area ≡ size →
    bytes ≡ 4096 + 2 * size → (base ≡ 4096) ⊎ (base ≡ 4096 + size) → IsOneOfTwo area bytes
one_of_two area base size bytes base_is size_is whole one = record {
  whole = whole ∙ ap (λ n. 4096 + 2 * n) (sym size_is);
  base = subst (λ b. (b ≡ 4096) ⊎ (b ≡ 4096 + size_of area)) (sym base_is)
      (subst (λ n. (base ≡ 4096) ⊎ (base ≡ 4096 + n)) (sym size_is) one);
}

pub find_open_refusal : (risen no_head : Type 0) (is_damaged : ℕ → Type 0) (no_room : Type 0)
    (e : Refusal) → IsFindRefusal risen no_head is_damaged e →
    IsOpenRefusal risen no_head is_damaged no_room e
find_open_refusal risen no_head is_damaged no_room Refusal.Full why = absurd why
find_open_refusal risen no_head is_damaged no_room e why = why

-- what a store that was found holds
pub reported : (is_honest : Type 0) (bytes : List ℕ) (area : Area) (room : ℕ) (undone : State)
    (next : ℕ) (records : List Record) (report : Report) →
    IsFound is_honest bytes area room undone next records report → is_honest → IsReport bytes report
reported is_honest bytes area room undone next records report found true_read =
    let stored = found.stored true_read in record {
      version = stored.version;
      size = size_of area;
      header = stored.header;
      blocks = stored.loaded.blocks;
      next = next;
      state = found.state;
      count = report.records;
      is_read = subst (λ k. IsRead stored.version k (size_of area) bytes stored.loaded.blocks next
          found.state
          report.records) stored.picks stored.loaded.is_read;
      collections = found.collections;
      unfinished = found.unfinished;
      records = refl;
    }
