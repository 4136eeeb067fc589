-- What a store leaves that is closed.
use Rattle.std.specs.Prelude.{ℕ, ◌<◌, ◌≤◌, List, [], take, Contains}
use Rattle.calls.specs.Contents.{Collection}
use Rattle.calls.specs.Transactions.{Transaction}
use Rattle.disk_model.specs.declared.disk.Disk as disks
use Rattle.txn.specs.declared.actions.BookStep.{BookStep}
use Rattle.txn.specs.Books.{BookState, standing}
use Rattle.txn.specs.Histories.{committed_by}
use Rattle.checkpoint.specs.Crash.{Yields}
use Rattle.checkpoint.specs.Keepers.{KeeperState}
use Rattle.group_commit.specs.declared.mark.Raised.{Raised}
use Rattle.group_commit.specs.Histories.{AreCounted}
use Rattle.group_commit.specs.Marks.{AreReached}
use Rattle.desks.specs.declared.naming.Naming.{Ghosts}
use Rattle.desks.specs.Seen.{IsHistory}
use Rattle.clients.specs.Known.{SeenState}
use Rattle.store.specs.Vaults.{LeavesSince}

-- The mark was brought to a count at a moment, not before this one. Whatever a stop at any moment
-- from then on might have left of the disk is sound, and stands for a content that some beginning
-- of the transactions gives; that beginning holds so many of them.
pub record WasKept {D : Type 0} (g : disks.Ghosts D) (disk : D) (start : List Collection)
    (transactions : List Transaction) (from : ℕ) (x : Raised) : Type 0 where
  pub later : from ≤ x.moment
  pub past : x.moment ≤ g.moment disk
  pub each : (bytes : List ℕ) → g.left_since disk x.moment bytes →
      Yields start transactions (take x.count transactions) bytes

-- The book stands where a legal history from the opened content ends, which begins with what each
-- of the clients had seen that left; and where so many were made as these are, each step that has a
-- client is of one of them. Whatever a stop leaves of the disk now is sound, and stands for a
-- content that some beginning of the transactions gives that the history commits; that beginning
-- holds all that the mark tells, and each count that was loaded of it. And whatever a stop at any
-- moment since the opening might have left is sound, and stands for a content that some such
-- beginning gives; from the moment on at which the mark was brought to a count that was loaded,
-- that beginning holds so many.
pub record Closes {J D : Type 0} (j : Ghosts J) (g : disks.Ghosts D) (left : SeenState) (made : ℕ)
    (book : BookState (List Collection)) (keeper : KeeperState D) : Type 0 where
  pub steps : List BookStep
  pub legal : IsHistory j.origin steps (standing book)
  pub counted : AreCounted left.clients made steps
  pub reached : AreReached left.counts keeper.mark
  pub stop : j.sound → (bytes : List ℕ) → g.may_leave keeper.disk bytes →
      Yields j.origin.start (committed_by steps) (take keeper.mark (committed_by steps)) bytes
  pub any_moment : j.sound →
      LeavesSince j g keeper.disk (Yields j.origin.start (committed_by steps) [])
  pub since_told : j.sound → (x : Raised) → Contains left.counts x → 0 < x.count →
      WasKept g keeper.disk j.origin.start (committed_by steps) j.opened_at x
