-- What a turn tells of the mark.
use Rattle.std.specs.Prelude.{◌≡◌, ℕ, ◌≤◌, ◌+◌, Bool, true, List, ◌++◌, Result, Ok, Err, IfErr}
use Rattle.atomic_table.specs.Seated.{TableId}
use Rattle.calls.specs.declared.refusal.Refusal.{Refusal}
use Rattle.disk_model.specs.declared.disk.Disk as disks
use Rattle.records.specs.declared.block.Block.{Block}
use Rattle.checkpoint.specs.declared.turn.Turn.{Turn}
use Rattle.checkpoint.specs.Keepers.{KeeperState}
use Rattle.checkpoint.specs.Keeping.{TurnKeeps}
use Rattle.group_commit.specs.Orders.{ReceiverState}
use Rattle.group_commit.specs.declared.mark.Raised.{Raised}
use Rattle.group_commit.specs.Marks.{WatcherState, new_watcher, with_count, with_stop}
use Rattle.group_commit.specs.Rising.{raised_to}
use Rattle.store.specs.declared.checkpointing.Checkpoint.{Checkpoint}

-- how a mark was raised that is brought on to what is kept, at this moment
abbrev pub brought_to : List Raised → ℕ → Result Turn Refusal → List Raised
brought_to raised moment (Ok (Turn.Kept place)) = raised_to place moment raised
brought_to raised moment r = raised

abbrev pub flipped_to : List Raised → ℕ → Result ℕ Refusal → List Raised
flipped_to raised moment (Ok place) = raised_to place moment raised
flipped_to raised moment (Err e) = raised

-- what a turn tells is kept is not past the keeper's mark
abbrev pub IsWithin : Result Turn Refusal → ℕ → Type 0
IsWithin (Ok (Turn.Kept place)) mark = place ≤ mark
IsWithin r mark = Unit {0}

-- what a committer has loaded of the mark, or was told; and how often it stopped
pub record CommitterState : Type 0 where
  pub watched : WatcherState
  pub stops : ℕ

-- a committer that took no turn
abbrev pub new_committer : TableId → CommitterState
new_committer table = record { watched = new_watcher table; stops = 0 }

-- Where the keeper met a fault, the failed flag is set, and the watcher told of it.
abbrev pub Fails : WatcherState → Refusal → WatcherState → Type 0
Fails old Refusal.Fault new = new ≡ with_stop old
Fails old Refusal.Failed new = new ≡ with_stop old
Fails old e new = new ≡ old

abbrev pub FailsWith : {T : Type 0} → WatcherState → Result T Refusal → WatcherState → Type 0
FailsWith old (Ok done) new = new ≡ old
FailsWith old (Err e) new = Fails old e new

-- how often the keeper's seat has set the failed flag, behind a refusal of its keeper
abbrev pub stops_by : Refusal → ℕ → ℕ
stops_by Refusal.Fault stops = stops + 1
stops_by Refusal.Failed stops = stops + 1
stops_by e stops = stops

-- and behind an answer
abbrev pub stops_behind : {T : Type 0} → Result T Refusal → ℕ → ℕ
stops_behind (Ok done) stops = stops
stops_behind (Err e) stops = stops_by e stops

-- Where the keeper's seat has set the flag only if the keeper has failed, it is so behind an answer
-- too. failed, fails: whether the keeper has failed, before and after it.
abbrev pub StaysCaused : {T : Type 0} → Result T Refusal → Bool → Bool → Type 0
StaysCaused r failed fails =
    (stops : ℕ) → (1 ≤ stops → failed ≡ true) → 1 ≤ stops_behind r stops → fails ≡ true

-- The mark had reached the place, at a moment.
abbrev pub Reaches : WatcherState → ℕ → WatcherState → Type 0
Reaches old place new = (x : Raised) × (place ≤ x.count) × (new ≡ with_count old x)

-- Why a turn of a committer is refused: an earlier fault, no room for the block, a fault.
abbrev pub IsTurnRefusal : Refusal → Type 0
IsTurnRefusal Refusal.Failed = Unit {0}
IsTurnRefusal Refusal.Full = Unit {0}
IsTurnRefusal Refusal.Fault = Unit {0}
IsTurnRefusal e = ⊥

-- Why a turn of a checkpointer is refused: what a gathering, a freeze and a packing refuse, and
-- what the keeper refuses of an end, of an image, of a piece and of a flip.
abbrev pub IsCheckRefusal : Refusal → Type 0
IsCheckRefusal Refusal.NoMemory = Unit {0}
IsCheckRefusal Refusal.Outrun = Unit {0}
IsCheckRefusal Refusal.Worn = Unit {0}
IsCheckRefusal Refusal.Full = Unit {0}
IsCheckRefusal Refusal.Failed = Unit {0}
IsCheckRefusal Refusal.Fault = Unit {0}
IsCheckRefusal e = ⊥

-- Why a copy is refused.
abbrev pub IsCopyRefusal : Refusal → Type 0
IsCopyRefusal Refusal.NoMemory = Unit {0}
IsCopyRefusal Refusal.Outrun = Unit {0}
IsCopyRefusal Refusal.Worn = Unit {0}
IsCopyRefusal e = ⊥

-- Why a freeze is refused: so, or as a collection is left to copy, or as an image is in progress.
abbrev pub IsFreezeRefusal : Refusal → Type 0
IsFreezeRefusal Refusal.Unfinished = Unit {0}
IsFreezeRefusal Refusal.Imaging = Unit {0}
IsFreezeRefusal e = IsCheckRefusal e

-- What a turn of a committer tells it: that the mark has reached what is kept.
abbrev pub TurnTells : WatcherState → Result Turn Refusal → WatcherState → Type 0
TurnTells old (Ok (Turn.Kept place)) new = Reaches old place new
TurnTells old (Ok t) new = new ≡ old
TurnTells old (Err e) new = Fails old e new

-- And a turn of a checkpointer.
abbrev pub CheckTells : WatcherState → Result Checkpoint Refusal → WatcherState → Type 0
CheckTells old (Ok (Checkpoint.Flipped place)) new = Reaches old place new
CheckTells old (Ok c) new = new ≡ old
CheckTells old (Err e) new = Fails old e new

-- a step towards an image, which writes nothing
abbrev pub IsPrepared : Checkpoint → Type 0
IsPrepared Checkpoint.Piece = ⊥
IsPrepared (Checkpoint.Flipped place) = ⊥
IsPrepared c = Unit {0}

-- these blocks were received, in order, and no image was noted
pub record IsReceived (before : ReceiverState) (blocks : List Block) (after : ReceiverState) :
    Type 0 where
  pub table : after.table ≡ before.table
  pub received : after.received ≡ before.received ++ blocks
  pub noted : after.noted ≡ before.noted

-- A keeper has taken a turn over the receiving end of a hand-off.
pub record Brings {D : Type 0} (g : disks.Ghosts D) (k : KeeperState D) (receiver : ReceiverState)
    (r : Result Turn Refusal) (l : KeeperState D) (after : ReceiverState) : Type 0 where
  pub more : List Block
  pub receives : IsReceived receiver more after
  pub keeps : TurnKeeps g (λ bs. IsReceived receiver bs after) k l
  pub stage : l.stage ≡ k.stage
  pub rises : k.mark ≤ l.mark
  pub told : IsWithin r l.mark
  pub refused : IfErr r IsTurnRefusal
  pub caused : StaysCaused r k.failed l.failed
