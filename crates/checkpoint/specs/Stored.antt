-- Blocks of records, and what those that a disk holds stand for.
use Rattle.std.specs.Prelude.{◌≡◌, ℕ, List, ◌++◌, map, None}
use Rattle.calls.specs.declared.format.Format.{Format}
use Rattle.calls.specs.Contents.{Collection}
use Rattle.calls.specs.Transactions.{calls_of}
use Rattle.records.specs.declared.record.Record.{Record}
use Rattle.records.specs.Records.{AreRecords}
use Rattle.steps.specs.Machines.{resting}
use Rattle.replay.specs.Journals.{records_in}
use Rattle.replay.specs.Steps.{State, Repeats}
use Rattle.replay.specs.Reading.{AreAccepted}
use Rattle.replay.specs.Lagging.{Lags}

-- ---- what blocks of a disk stand for

-- The blocks are an image and a journal that are read, up to this state, on a disk that may have
-- areas of its format.
pub record AreReadTo (blocks : List (List Record)) (s : State) : Type 0 where
  pub version : Format
  pub next : ℕ
  pub count : ℕ
  pub good : AreRecords None (records_in blocks)
  pub accepted : AreAccepted version (records_in blocks) next s count

-- The collections hold the same in both states, and the same calls are live.
pub record IsLevel (s t : State) : Type 0 where
  pub now : s.now ≡ t.now
  pub calls : calls_of (map (λ e. e.1) s.entries) ≡ calls_of (map (λ e. e.1) t.entries)

-- The records lead on from both states. Wherever they are broken off, the two are level there.
abbrev pub GoAlong : List Record → State → State → Type 0
GoAlong rs s t = (first rest : List Record) → rs ≡ first ++ rest →
    (u v : State) × Repeats first s u × Repeats first t v × IsLevel u v

-- The blocks stand for the first records of a past that led a book from the start to the state: for
-- the covered ones. The others lead on from what the blocks are read up to as they do from where
-- the covered ones lead. The book is of the format, and the blocks are of that or of a later one.
pub record StandIn (format : Format) (start : List Collection) (wear : ℕ) (records : List Record)
    (now : State)
    (blocks : List (List Record)) (covered : List Record) : Type 0 where
  -- the format of the book
  pub of_book : now.format ≡ format
  -- the records behind those that are covered
  pub since : List Record
  pub split : records ≡ covered ++ since
  -- where the covered records lead, and the others from there
  pub there : State
  pub led : Repeats covered (resting format start wear) there
  pub trail : State
  pub leads : Repeats since there trail
  pub trails : Lags trail now
  -- what the blocks are read up to, and where the others lead from there
  pub base : State
  pub are_read : AreReadTo blocks base
  pub state : State
  pub repeats : Repeats since base state
  pub lags : Lags state now
  pub along : GoAlong since there base
