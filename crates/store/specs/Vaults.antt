-- What lies under the keeper's lock.
use Rattle.std.specs.Prelude.{◌≡◌, ◌≢◌, ◌⊎◌, ℕ, ◌≤◌, true, List, Some, None, All}
use mathlib.Core.List.{IsPrefix}
use Rattle.disk_model.specs.declared.disk.Disk as disks
use Rattle.records.specs.declared.record.Record.{Record}
use Rattle.records.specs.declared.block.Block.{Block}
use Rattle.records.specs.Carried.{Carries}
use Rattle.images.specs.Gathers.{GatherState, FrozenState}
use Rattle.replay.specs.Journals.{records_in}
use Rattle.replay.specs.Steps.{State}
use Rattle.checkpoint.specs.declared.stage.Stage.{Stage}
use Rattle.checkpoint.specs.Crash.{YieldsUpTo}
use Rattle.checkpoint.specs.Keepers.{KeeperState}
use Rattle.checkpoint.specs.Keeping.{BegunImage, Uncrossed, HasReceived}
use Rattle.group_commit.specs.Accords.{AccordState}
use Rattle.group_commit.specs.Parties.{Among}
use Rattle.group_commit.specs.Orders.{ReceiverState}
use Rattle.group_commit.specs.declared.mark.Raised.{Raised}
use Rattle.group_commit.specs.Marks.{KeeperMark, top}
use Rattle.desks.specs.declared.naming.Naming.{Ghosts}
use Rattle.desks.specs.Desks.{AreRecorded, frozen_ends}
use Rattle.engine.specs.Rooms.{IsRoomOf}
use Rattle.engine.specs.declared.room.Room.{Room}

-- Whatever a stop at any moment since the opening might have left has P. Of a run that began
-- earlier it might have left that already when the store was open.
pub record LeavesSince {J D : Type 0} (j : Ghosts J) (g : disks.Ghosts D) (disk : D)
    (P : List ℕ → Type 0) : Type 0 where
  pub later : j.opened_at ≤ g.moment disk
  pub each : (bytes : List ℕ) → g.left_since disk j.opened_at bytes → P bytes
  pub before : (t : ℕ) (bytes : List ℕ) → t ≤ j.opened_at → g.left_since disk t bytes →
      j.left_since t bytes ⊎ P bytes

-- The mark was brought to a count that the keeper's is not below, at a moment since the opening.
-- Whatever a stop since that moment might have left has P of the count.
pub record IsKeptSince {J D : Type 0} (j : Ghosts J) (g : disks.Ghosts D) (keeper : KeeperState D)
    (P : ℕ → List ℕ → Type 0) (x : Raised) : Type 0 where
  pub opened : j.opened_at ≤ x.moment
  pub past : x.moment ≤ g.moment keeper.disk
  pub within : x.count ≤ keeper.mark
  pub each : (bytes : List ℕ) → g.left_since keeper.disk x.moment bytes → P x.count bytes

-- Whatever records a book of the store has made: where these blocks carry a beginning of them, and
-- this was noted as frozen, the keeper has received the blocks, and begun some images; and a stop
-- at any moment since the opening left what some beginning of what the records commit gives. Since
-- each moment at which the mark was raised that beginning has all that the mark told.
abbrev pub ReceivesAny : {J D : Type 0} → Ghosts J → disks.Ghosts D → List GatherState →
    List Block → List Raised → KeeperState D → Type 0
ReceivesAny j g noted received raised keeper =
    (records : List Record) (now : State) (groups : List (List Record)) →
    AreRecorded j.origin.format j.origin.start j.origin.wear records now noted →
    Carries 0 0 received groups →
    IsPrefix (records_in groups) records → Uncrossed (frozen_ends noted) groups →
    ((begun : List BegunImage) × HasReceived g.seen g.may_leave j.origin.format j.origin.start
    j.origin.wear records now
    (frozen_ends noted) begun received keeper)
    × LeavesSince j g keeper.disk (YieldsUpTo j.origin.start records 0)
    × All (IsKeptSince j g keeper (YieldsUpTo j.origin.start records)) raised

-- What is known to be frozen is awaited: the keeper holds the end of its image.
abbrev pub Awaits : Stage → GatherState → Type 0
Awaits stage g = (f : FrozenState) → g.frozen ≡ Some f →
    stage ≡ Stage.Awaited (record { end = f.image_head.end; place = f.image_head.place })

-- The mark is not past what the keeper has kept. The keeper's seat has set the failed flag only
-- where the keeper has failed. What is known to be frozen was noted.
pub record IsVault {J D : Type 0} (j : Ghosts J) (g : disks.Ghosts D) (keeper : KeeperState D)
    (receiver : ReceiverState) (seat : KeeperMark) (near : AccordState) : Type 0 where
  pub handoff : receiver.table ≡ j.handoff
  pub mark : seat.table ≡ j.mark
  pub awaited : near.table ≡ j.awaited
  pub marked : (top seat.raised).count ≤ keeper.mark
  pub caused : 1 ≤ seat.stops → keeper.failed ≡ true
  pub noted : near.gather.frozen ≢ None → Among near.gather receiver.noted
  pub received : j.sound → ReceivesAny j g receiver.noted receiver.received seat.raised keeper

-- The room of a keeper that lies under the keeper's lock.
pub record IsRoomUnderLock {J D : Type 0} (j : Ghosts J) (g : disks.Ghosts D) (room : Room) :
    Type 0 where
  pub keeper : KeeperState D
  pub receiver : ReceiverState
  pub seat : KeeperMark
  pub near : AccordState
  pub vault : IsVault j g keeper receiver seat near
  pub room_of : IsRoomOf keeper room
