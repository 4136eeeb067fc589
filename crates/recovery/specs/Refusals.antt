-- What is left of a disk whose store was to be opened, for good or on the way to more.
use Rattle.std.specs.Prelude.{◌⊎◌, List}
use Rattle.calls.specs.Contents.{Collection}
use Rattle.calls.specs.declared.refusal.Refusal.{Refusal}
use Rattle.disk_model.specs.Disk.{IsAtRest, ReadsOnly, Rises}
use Rattle.disk_model.specs.declared.disk.Disk.{Ghosts}
use Rattle.gate_block.specs.declared.area.Area.{Area}
use Rattle.txn.specs.Books.{BookState}
use Rattle.recovery.specs.Openings.{IsOpened, KeepsContent}

-- The store of the old disk was opened, and nothing more was done: the new one is as the opening
-- left it, and at rest where the old one was.
pub record IsOnlyOpened {D : Type 0} (g : Ghosts D) (old new : D) : Type 0 where
  pub book : BookState (List Collection)
  pub area : Area
  pub opened : IsOpened (g.seen old) book area (g.seen new)
  pub at_rest : IsAtRest g.seen g.may_leave old → IsAtRest g.seen g.may_leave new

-- A disk was only read; or its store was opened, where it read true, and nothing more was done.
abbrev pub IsOpenedAtMost : {D : Type 0} → Ghosts D → D → D → Type 0
IsOpenedAtMost g old new = ReadsOnly g.seen g.may_leave g.moment g.left_since old new ⊎
    (g.is_honest new → IsOnlyOpened g old new)

-- What an opening leaves of a disk, done or refused. It was only read, or opened, or it failed: so
-- nothing is written where no store is, or a damaged one. A stop at any moment of it leaves the
-- content.
pub record OpeningLeaves {D : Type 0} (g : Ghosts D) (old new : D) : Type 0 where
  pub ends : IsOpenedAtMost g old new ⊎ Rises (g.fault_count old) (g.fault_count new)
  pub any_moment : g.is_honest new →
      KeepsContent g.seen g.may_leave g.moment g.left_since old new

-- What a refused upgrade leaves. For want of memory or of room the store was opened at most. A fault
-- may come at any write. Each other refusal comes with nothing written.
abbrev pub RefusalLeaves : {D : Type 0} → Ghosts D → D → D → Refusal → Type 0
RefusalLeaves g old new Refusal.NoMemory = IsOpenedAtMost g old new
RefusalLeaves g old new Refusal.Full = IsOpenedAtMost g old new
RefusalLeaves g old new Refusal.Fault = Unit {0}
RefusalLeaves g old new e = ReadsOnly g.seen g.may_leave g.moment g.left_since old new
