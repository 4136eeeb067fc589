-- What a command leaves on a disk, and what a stop at any moment of it might have left.
use Rattle.std.specs.Prelude.{◌≡◌, ◌⊎◌, ℕ, ◌%◌, ◌≤◌, List, [], ◌∷◌, ◌++◌, length, replicate, take}
use Rattle.std.specs.Prelude.{Bool, true, false, Some, Err, get_or}
use mathlib.Core.List.{IsPrefix}
use Rattle.boost.specs.declared.arguments.Task.{Task}
use Rattle.boost.specs.Commands.{IsUnderstood}
use Rattle.calls.specs.Contents.{Collection}
use Rattle.calls.specs.Formats.{number_of}
use Rattle.calls.specs.declared.format.Format.{Format}
use Rattle.calls.specs.declared.refusal.Refusal.{Refusal}
use Rattle.disk_model.specs.Disk.{ReadsOnly, IsAtRest, LeavesOnly, Rises}
use Rattle.disk_model.specs.declared.disk.Disk.{Ghosts}
use Rattle.replay.specs.Journals.{StandsFor}
use Rattle.replay.specs.Reading.{IsSound}
use Rattle.recovery.specs.Formatting.{IsRoomFor, IsRoomAs, IsEmptyStore, IsMaking}
use Rattle.records.specs.declared.record.Record.{Record}
use Rattle.recovery.specs.declared.report.Report.{Report}
use Rattle.recovery.specs.declared.report.Survey.{Survey}
use Rattle.recovery.specs.Heads.{HasHeader, HasNoHeader}
use Rattle.recovery.specs.Openings.{IsOpened, IsReport, IsDamagedAt, KeepsContent}
use Rattle.recovery.specs.Finding.{IsFound}
use Rattle.recovery.specs.Loading.{HoldsImage}
use Rattle.recovery.specs.Surveys.{IsSurvey}
use Rattle.recovery.specs.declared.editing.Edit.{Edit}
use Rattle.recovery.specs.Edits.{IsUneditable}
use Rattle.recovery.specs.Copies.{IsCopyOf, IsTooLarge, IsCopyAnswer}
use Rattle.recovery.specs.Refusals.{IsOpenedAtMost, OpeningLeaves}
use Rattle.recovery.specs.Upgrades.{IsUpgraded}
use Rattle.replay.specs.Steps.{State}
use Rattle.gate_block.specs.declared.area.Area.{Area}
use Rattle.gate_block.specs.Area.{base_of, size_of}
use Rattle.txn.specs.Books.{BookState}
use Rattle.world.specs.Pasts.{Past, AreAnswered, committed_in, greatest_told}
use Rattle.checkpoint.specs.Crash.{Yields}
use Rattle.checkpoint.specs.declared.turn.Turn.{Turn}
use Rattle.world.specs.Worlds.{HasPast}
use Rattle.world.specs.Moves.{Whole}
use Rattle.world.specs.OneStep.{parts}
use Rattle.talks.specs.Plays.{Plays}
use Rattle.talks.specs.Requests.{nobody, Answers, CarriesOut}
use Rattle.talks.specs.declared.client.Client.{Client}
use Rattle.talks.specs.declared.texts.Response.{Response}
use Rattle.script.specs.Scripts.{IsScriptOf}
use Rattle.script.specs.declared.action.Action.{Action}
use Rattle.script.specs.declared.action.Request.{Request}
use Rattle.script.specs.declared.line.Line.{Line}

-- The answer of a line tells that all commits and makings up to the place are kept: that of a turn
-- and of a checkpoint names the place, and `kept` tells it of the ticket of the client that asked.
abbrev pub TellsKept : List Client → Action → Response → (place : ℕ) → Type 0
TellsKept ks Action.Turn (Response.Turned (Turn.Kept n)) place = place ≡ n
TellsKept ks Action.Checkpoint (Response.Flipped n) place = place ≡ n
TellsKept ks (Action.Client n Request.Kept) Response.Kept place =
    (get_or ks (n % 64) nobody).ticket ≡ Some place
TellsKept ks action response place = ⊥

-- A line of a play, with those before it and those after it: what it was answered, and the clients
-- and the world before it and behind it. A beginning of the play's steps led to that world. What
-- the answer tells to be kept is among what a stop leaves, at any moment from then on.
pub record IsLineOf {D : Type 0} (g : Ghosts D) (content : List Collection) (opened : Whole D)
    (first : List Line) (line : Line) (last : List Line) (steps : Past) (clients : List Client)
    (world : Whole D) : Type 0 where
  pub before : List Client
  pub there : Whole D
  pub carried : CarriesOut g (replicate 64 nobody) opened first before there
  pub response : Response
  pub behind : List Client
  pub here : Whole D
  pub answered : Answers g before there line.what response behind here
  pub goes_on : CarriesOut g behind here last clients world
  pub taken : Past
  pub begins : IsPrefix taken steps
  pub led : Plays g opened taken here
  pub told : (place : ℕ) → TellsKept before line.what response place →
      LeavesOnly g.moment g.left_since here.keeper.disk world.keeper.disk
      (Yields content (committed_in steps) (take place (committed_in steps)))

-- Lines were carried out from the content on, by steps that led from the opened world to this one.
-- Whatever a stop at any moment since old might have left is sound, and stands for a content that
-- some beginning of the transactions gives that the steps committed, each run whole, one after
-- another, with the replies that were got. What a stop leaves now holds all that the mark tells,
-- which is no less than what was told; and from each line on that told that something is kept, a
-- stop leaves that.
pub record WasPlayed {D : Type 0} (g : Ghosts D) (content : List Collection) (lines : List Line)
    (old : D) (opened : Whole D) (clients : List Client) (world : Whole D) : Type 0 where
  pub steps : Past
  pub own : AreAnswered steps
  pub led : Plays g opened steps world
  pub any_moment : LeavesOnly g.moment g.left_since old world.keeper.disk
      (Yields content (committed_in steps) [])
  pub each_line : (first : List Line) (line : Line) (last : List Line) →
      lines ≡ first ++ line ∷ last →
      IsLineOf g content opened first line last steps clients world
  pub marked : greatest_told steps ≤ world.mark
  pub stop : (bytes : List ℕ) → g.may_leave world.keeper.disk bytes →
      Yields content (committed_in steps) (take world.mark (committed_in steps)) bytes

-- A world of the disk was made by an opening: its book and its keeper are those that the opening
-- answered, nothing is in transit, and numbers are drawn from the book's next one on. Its past
-- begins with the content of the store.
pub record StartsFrom {D : Type 0} (g : Ghosts D) (old : D) (w : Whole D) : Type 0 where
  pub opened : IsOpened (g.seen old) w.book w.keeper.area (g.seen w.keeper.disk)
  pub nothing_sent : w.transit ≡ []
  pub numbers : w.next ≡ w.book.next
  pub past : (content : List Collection) → StandsFor (g.seen old) content →
      IsAtRest g.seen g.may_leave old → HasPast g.seen g.may_leave content [] (parts w)

-- Lines are played on a disk: it was opened, the lines were carried out, one after another, for 64
-- clients that had done nothing before, and the disk is that of the world behind them. A stop in
-- the opening leaves the content; and where the disk was at rest and its sound bytes stood for a
-- content, the lines went on from that, and what is said of a stop at any moment is said of each
-- since the opening began.
pub record ArePlayedOn {D : Type 0} (g : Ghosts D) (lines : List Line) (old new : D) : Type 0 where
  pub opened : Whole D
  pub starts : StartsFrom g old opened
  pub keeps : KeepsContent g.seen g.may_leave g.moment g.left_since old opened.keeper.disk
  pub clients : List Client
  pub world : Whole D
  pub carried : CarriesOut g (replicate 64 nobody) opened lines clients world
  pub disk : new ≡ world.keeper.disk
  pub played : (content : List Collection) → IsAtRest g.seen g.may_leave old →
      IsSound (g.seen old) → StandsFor (g.seen old) content →
      WasPlayed g content lines old opened clients world

-- So are the lines of a script.
abbrev pub IsPlayedOn : {D : Type 0} (g : Ghosts D) → List ℕ → D → D → Type 0
IsPlayedOn g script old new = (lines : List Line) × IsScriptOf lines script ×
    ArePlayedOn g lines old new

-- What a play leaves, done or not: a beginning of the script's lines was played on the disk, or
-- none, and then the store was opened at most, and a stop leaves its content. So no line was
-- carried out that the script does not have, nor one before an earlier one.
abbrev pub IsLeftByPlay : {D : Type 0} (g : Ghosts D) → List ℕ → D → D → Type 0
IsLeftByPlay g script old new = OpeningLeaves g old new
    ⊎ ((lines : List Line) × IsScriptOf lines script × ((n : ℕ) ×
    ArePlayedOn g (take n lines) old new))

-- A script is played on some disk that was an empty store, at rest.
pub record IsPlayedAnew {D : Type 0} (g : Ghosts D) (script : List ℕ) : Type 0 where
  pub disk : D
  pub empty : IsEmptyStore Format.One (g.seen disk)
  pub at_rest : IsAtRest g.seen g.may_leave disk
  pub left : D
  pub played : IsPlayedOn g script disk left

-- There is a version of this number, and a disk of it with room for two areas of this size, and no
-- more, was made an empty store of that version, at rest.
pub record IsFormatted {D : Type 0} (g : Ghosts D) (number area : ℕ) (old new : D) : Type 0 where
  pub room : IsRoomAs number area (length (g.seen old))
  pub empty : IsEmptyStore room.version (g.seen new)
  pub at_rest : IsAtRest g.seen g.may_leave new

-- The bytes are those of an empty store of the version of this number.
pub record IsEmptyAs (number : ℕ) (bytes : List ℕ) : Type 0 where
  pub version : Format
  pub numbered : number ≡ number_of version
  pub empty : IsEmptyStore version bytes

-- What a format leaves of a disk, done or not. It is as it was; or there is room for the areas, and
-- an empty store was made, or the disk failed. A stop at any moment of it, where the disk was at
-- rest, leaves the old bytes, with any value for the gate of the head; no store; or an empty one of
-- the version of this number.
pub record FormatLeaves {D : Type 0} (g : Ghosts D) (number area : ℕ) (old new : D) : Type 0 where
  pub ends : (new ≡ old) ⊎ (IsFormatted g number area old new ⊎
      (IsRoomAs number area (length (g.seen old)) ×
      Rises (g.fault_count old) (g.fault_count new)))
  pub any_moment : IsAtRest g.seen g.may_leave old →
      LeavesOnly g.moment g.left_since old new (IsMaking (IsEmptyAs number) (g.seen old))

-- A store was brought to the second format, with its head, its next number, its wear and its
-- content, and is at rest where it was before. One that was of this format was only opened.
pub record IsBroughtUp {D : Type 0} (g : Ghosts D) (old new : D) : Type 0 where
  pub upgraded : IsUpgraded (g.seen old) (g.seen new)
  pub at_rest : IsAtRest g.seen g.may_leave old → IsAtRest g.seen g.may_leave new

-- What an upgrade leaves of a disk, done or not. It was only read, or opened at most; or it failed,
-- or a store was brought to the second format. So where no store is, or a damaged one, nothing is
-- written. A stop at any moment of it leaves the content.
pub record UpgradeLeaves {D : Type 0} (g : Ghosts D) (old new : D) : Type 0 where
  pub ends : IsOpenedAtMost g old new ⊎ (Rises (g.fault_count old) (g.fault_count new) ⊎
      (g.is_honest new → IsBroughtUp g old new))
  pub any_moment : g.is_honest new →
      KeepsContent g.seen g.may_leave g.moment g.left_since old new

-- A store was read and opened, and the disk is as the opening leaves it.
pub record IsShown {D : Type 0} (g : Ghosts D) (old new : D) : Type 0 where
  pub book : BookState (List Collection)
  pub area : Area
  pub opened : IsOpened (g.seen old) book area (g.seen new)

-- A store was found: what its area in use holds, with what was live in it undone in memory.
pub record IsSeen {D : Type 0} (g : Ghosts D) (old new : D) : Type 0 where
  pub area : Area
  pub room : ℕ
  pub undone : State
  pub next : ℕ
  pub undoing : List Record
  pub report : Report
  pub found : IsFound (g.is_honest new) (g.seen old) area room undone next undoing report

-- A store was found, and this is what room it takes and has: so many bytes are the image of the
-- area in use.
pub record IsSurveyed {D : Type 0} (g : Ghosts D) (old new : D) : Type 0 where
  pub seen : IsSeen g old new
  pub image : ℕ
  pub holds : g.is_honest new →
      HoldsImage (base_of seen.area) (size_of seen.area) (g.seen old) image
  pub survey : Survey
  pub is_survey : IsSurvey seen.area seen.undone seen.next seen.undoing image seen.report survey

-- A show opened the store, or found it where nothing is to be written.
abbrev pub IsShownAs : {D : Type 0} (g : Ghosts D) → (read_only : Bool) → D → D → Type 0
IsShownAs g false old new = g.is_honest new → IsShown g old new
IsShownAs g true old new = IsSeen g old new

-- What it leaves then: what an opening does, or all as it was.
abbrev pub ShowLeaves : {D : Type 0} (g : Ghosts D) → (read_only : Bool) → D → D → Type 0
ShowLeaves g false old new = OpeningLeaves g old new
ShowLeaves g true old new = ReadsOnly g.seen g.may_leave g.moment g.left_since old new

-- A store was read, and so many things were counted of it.
pub record IsCounted {D : Type 0} (g : Ghosts D) (disk : D) : Type 0 where
  pub counts : Report
  pub report : IsReport (g.seen disk) counts

-- What holds where a command was done: a format made an empty store; a play understood each line of
-- its script, and carried them out on the store that was opened; a show opened a store or found
-- one, a check counted one, and a stat what room it takes; an upgrade brought one to the second
-- format; and the stored run did what it does on a disk of its own.
abbrev pub IsDone : {D : Type 0} (g : Ghosts D) → Type 0 → Task → List ℕ → D → D → Type 0
IsDone g stored (Task.Format disk area version reserve group force) script old new =
    IsFormatted g version area old new
IsDone g stored (Task.Play disk name) script old new =
    IsUnderstood script × (g.is_honest new → IsPlayedOn g script old new)
IsDone g stored (Task.Show disk read_only) script old new = IsShownAs g read_only old new
IsDone g stored (Task.Check disk) script old new = g.is_honest new → IsCounted g old
IsDone g stored (Task.Stat disk json) script old new = IsSurveyed g old new
IsDone g stored (Task.Upgrade disk) script old new = g.is_honest new → IsBroughtUp g old new
IsDone g stored Task.Demo script old new = stored

-- What a command leaves on the disk, done or not, and what a stop at any moment of it might have
-- left: a format the old bytes, no store or an empty one; a play what a beginning of the script's
-- lines leaves, and a beginning of what its steps committed; a show the content, or all where
-- nothing is to be written; a check and a stat only read; an upgrade the content; and the stored
-- run does not touch the disk. Where no store is, or a damaged one, only a format writes.
abbrev pub Leaves : {D : Type 0} (g : Ghosts D) → Task → (script : List ℕ) → D → D → Type 0
Leaves g (Task.Format disk area version reserve group force) script old new =
    FormatLeaves g version area old new
Leaves g (Task.Play disk name) script old new = g.is_honest new → IsLeftByPlay g script old new
Leaves g (Task.Show disk read_only) script old new = ShowLeaves g read_only old new
Leaves g (Task.Check disk) script old new =
    ReadsOnly g.seen g.may_leave g.moment g.left_since old new
Leaves g (Task.Stat disk json) script old new =
    ReadsOnly g.seen g.may_leave g.moment g.left_since old new
Leaves g (Task.Upgrade disk) script old new = UpgradeLeaves g old new
Leaves g Task.Demo script old new = new ≡ old

-- ---- a copy, from the two disks as they were to the two as they are

-- The new disk has room for two areas of this size, and is a copy of the old one with these edits
-- made, at rest.
pub record IsCopied {D N : Type 0} (g : Ghosts D) (h : Ghosts N) (area : ℕ) (edits : List Edit)
    (before after : D × N) : Type 0 where
  pub room : IsRoomFor Format.Two area (length (h.seen before.1))
  pub copy : g.is_honest after.0 → IsCopyOf (g.seen before.0) edits area (h.seen after.1)
  pub at_rest : IsAtRest h.seen h.may_leave after.1

-- Why a store was not copied; and the new disk is as it was, unless it failed.
pub record IsCopyRefused {D N : Type 0} (g : Ghosts D) (h : Ghosts N) (area : ℕ)
    (edits : List Edit) (before after : D × N) : Type 0 where
  pub refusal : Refusal
  pub why : IsCopyAnswer (IsRoomFor Format.Two area (length (h.seen before.1)))
      (Rises (g.fault_count before.0) (g.fault_count after.0) ⊎
      Rises (h.fault_count before.1) (h.fault_count after.1))
      (g.is_honest after.0 → HasNoHeader (g.seen before.0))
      (λ place. g.is_honest after.0 → IsDamagedAt (g.seen before.0) place)
      (λ e. g.is_honest after.0 → IsUneditable (g.seen before.0) edits e)
      (g.is_honest after.0 → IsTooLarge (g.seen before.0) edits area) (Err refusal)
  pub starved : refusal ≡ Refusal.NoMemory → g.is_honest after.0 → HasHeader (g.seen before.0)
  pub unwritten : (after.1 ≡ before.1) ⊎
      ((refusal ≡ Refusal.Fault) × Rises (h.fault_count before.1) (h.fault_count after.1))
