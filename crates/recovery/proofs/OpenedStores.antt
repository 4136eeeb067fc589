-- A store that was opened, as its keeper finds it: what its area holds, and what its bytes stand
-- for.
use Rattle.std.proofs.Common.{◌≡◌, ℕ, List, [], ◌∷◌, ◌++◌, None, length, map, take, refl, sym, ap}
use Rattle.std.proofs.Common.{subst, ◌∙◌, ◌≤◌}
use Rattle.std.specs.List.{AllByRecursion}
use Rattle.calls.specs.Contents.{Collection}
use Rattle.calls.specs.Transactions.{Leads}
use Rattle.boosted.proofs.Each.{each_append}
use Rattle.gate_block.specs.declared.area.Area.{Area}
use Rattle.gate_block.specs.Row.{IsRow, part}
use Rattle.gate_block.specs.Area.{base_of, size_of}
use Rattle.gate_block.specs.Layout.{base_in_use}
use Rattle.records.specs.declared.record.Record.{Record}
use Rattle.records.specs.Records.{IsRecord, AreRecords, spelling}
use Rattle.steps.specs.Machines.{resting}
use Rattle.checkpoint.specs.Stored.{AreReadTo}
use Rattle.checkpoint.specs.DiskHeads.{IsHeaded, IsInUse}
use Rattle.replay.specs.Journals.{IsHeader, Holds, StandsFor, records_in}
use Rattle.replay.specs.Steps.{State}
use Rattle.replay.specs.Reading.{Unread, InJournal, Reads, AreAccepted, IsSound, last_named}
use Rattle.replay.specs.Repetitions.{AreRead}
use Rattle.replay.proofs.Lists.{leads_append, flat_map-append}
use Rattle.replay.proofs.RepeatLemmas.{records_append, read_records}
use Rattle.replay.proofs.Parts.{journal_reads}
use Rattle.replay.proofs.Contents.{sound_behind, content_behind}
use Rattle.replay.proofs.Resting.{at_rest}
use Rattle.replay.proofs.OneFormat.{accepted_of, accepted_holds}
use Rattle.replay.proofs.UndoRecords.{blocks_hold, undo_acts}
use Rattle.txn.specs.Books.{BookState}
use Rattle.recovery.specs.Openings.{IsOpened, IsReadyStore}
use Rattle.recovery.proofs.OpenLemmas.{header_same, picks_same, far_off}
use Rattle.recovery.proofs.Stores.{one_held, stands_for_one}

all_in : (blocks : List (List Record)) → AllByRecursion AreRead blocks → AreRead (records_in blocks)
all_in [] read = tt
all_in (b ∷ blocks) read = each_append (IsRecord None) b (records_in blocks) read.0
    (all_in blocks read.1)

-- ---- what its area holds

module _ (bytes : List ℕ) (book : BookState (List Collection)) (area : Area) (now : List ℕ)
    (told : IsOpened bytes book area now) where
  -- behind what was read the records of the undoing lead to a state at rest
  abbrev rest : State
  rest = resting told.undone.format told.undone.now told.undone.wear

  rested : told.undone ≡ rest
  rested = at_rest told.undone (sound_behind told.version (records_in told.blocks) told.next
      told.state told.count told.is_read.accepted told.undoing told.undone told.undo.leads)
      told.undo.over

  abbrev all : List (List Record)
  all = told.blocks ++ told.written

  abbrev more : (n k : ℕ) × Leads Reads told.undoing (InJournal told.next told.state told.count)
      (InJournal n told.undone k)
  more = journal_reads told.undoing told.next told.state told.undone told.count told.undo.leads

  pub good : AreRecords None (records_in all)
  good =
      subst (AreRecords None) (sym (flat_map-append (λ rs. rs) told.blocks told.written))
      (records_append None (records_in told.blocks) (records_in told.written)
      told.is_read.good (read_records (last_named None (records_in told.blocks))
      (records_in told.written) (all_in told.written told.read_too)))

  pub accepted : AreAccepted told.version (records_in all) more.0 rest more.1
  accepted =
      let parts : records_in all ≡ records_in told.blocks ++ told.undoing =
      flat_map-append (λ rs. rs) told.blocks told.written ∙
      ap (λ l. records_in told.blocks ++ l)
      (blocks_hold told.undoing told.written told.in_blocks) in
      subst (λ l. AreAccepted told.version l more.0 rest more.1) (sym parts)
      (subst (λ v. AreAccepted told.version (records_in told.blocks ++ told.undoing) more.0 v
      more.1) rested
      (leads_append Reads (records_in told.blocks) told.undoing (Unread told.version)
      (InJournal told.next told.state told.count) (InJournal more.0 told.undone more.1)
      told.is_read.accepted more.2))

  pub are_read : AreReadTo all rest
  are_read = record {
    version = told.version;
    next = more.0;
    count = more.1;
    good = good;
    accepted = accepted;
  }

  far : 4096 ≤ base_of area
  far = far_off (base_of area) (size_of area) bytes told.picks

  pub header : IsHeader told.version (size_of area) now
  header = header_same told.version (base_of area) (size_of area) (size_of area) bytes now far
      told.elsewhere told.header

  pub picks : base_in_use (size_of area) now ≡ base_of area
  picks = picks_same (base_of area) (size_of area) (size_of area) bytes now far told.elsewhere ∙
      sym told.picks

  pub headed : IsHeaded told.undone.format area now
  headed = record {
    version = told.version;
    header = header;
    allowed = (accepted_of told.version (records_in all) more.0 rest more.1 accepted good).0;
    picks = picks;
  }

  -- ---- what its bytes stand for

  abbrev holds : Holds now all
  holds = accepted_holds told.version (size_of area) now all more.0 rest more.1 header
      (subst (λ b. IsRow (map spelling all) (part b (size_of area) now)) (sym picks) told.row_is)
      good accepted

  abbrev pub sound : IsSound now
  sound = record {
    blocks = all;
    holds = holds;
    good = good;
    next = more.0;
    end = rest;
    count = more.1;
    accepted = accepted;
  }

  is_there : (other : List Collection) → StandsFor now other → told.undone.now ≡ other
  is_there other stands =
      content_behind told.version (records_in all) more.0 rest more.1 accepted [] rest refl refl
      refl now other stands (ap records_in (one_held now all stands.blocks holds stands.holds))

  pub stands : StandsFor now told.undone.now
  stands =
      let one = stands_for_one now sound in
      subst (StandsFor now) (sym (is_there one.0 one.1)) one.1

  -- the content of the bytes from before
  pub was_there : (content : List Collection) → StandsFor bytes content →
      told.undone.now ≡ content
  was_there content stood =
      let held : Holds bytes told.blocks =
      accepted_holds told.version (size_of area) bytes told.blocks told.next told.state told.count
      told.header
      (subst (λ b. IsRow (map spelling told.blocks) (part b (size_of area) bytes)) told.picks
      told.is_read.row_is) told.is_read.good told.is_read.accepted in
      content_behind told.version (records_in told.blocks) told.next told.state told.count
      told.is_read.accepted told.undoing told.undone told.undo.leads told.undo.over
      (undo_acts told.undoing told.marks) bytes content stood
      (ap records_in (one_held bytes told.blocks stood.blocks held stood.holds))

module _ {D : Type 0} (seen : D → List ℕ) (may_leave : D → List ℕ → Type 0) (bytes : List ℕ)
    (book : BookState (List Collection)) (disk : D) (area : Area)
    (told : IsOpened bytes book area (seen disk))
    (ready : IsReadyStore seen may_leave bytes book area disk) where
  pub in_use : IsInUse seen may_leave told.undone.format area disk (told.blocks ++ told.written)
  in_use = record {
    ready = ready.ready told;
    head = record {
      headed = headed bytes book area (seen disk) told;
      head_at_rest = λ c left. ap (take 4096) (ready.at_rest c left);
      same_size = λ c left. ap length (ready.at_rest c left);
    };
  }
