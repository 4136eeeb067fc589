-- How far commits are kept, as those who keep and those who watch know it.
use Rattle.std.specs.Prelude.{◌≡◌, ◌⊎◌, ℕ, ◌≤◌, ◌+◌, Bool, true, List, [], ◌∷◌, ◌++◌, All, Contains}
use Rattle.atomic_table.specs.Seated.{TableId}
use Rattle.group_commit.specs.declared.mark.Raised.{Raised}

-- a mark that nobody has raised
abbrev pub unraised : Raised
unraised = record { count = 0; moment = 0 }

-- where a mark is that was raised so, the last time first
abbrev pub top : List Raised → Raised
top [] = unraised
top (x ∷ xs) = x

-- all that the keeper's seat has brought a mark to, the last time first, and how often it set the
-- failed flag
pub record KeeperMark : Type 0 where
  pub table : TableId
  pub raised : List Raised
  pub stops : ℕ

-- the keeper's seat of a new mark
abbrev pub new_keeper : TableId → KeeperMark
new_keeper table = record { table = table; raised = []; stops = 0 }

-- how often a stopper set the failed flag
pub record StopperState : Type 0 where
  pub table : TableId
  pub stops : ℕ

-- a stopper that has set nothing
abbrev pub new_stopper : TableId → StopperState
new_stopper table = record { table = table; stops = 0 }

-- what a watcher of a mark knows: the counts that it loaded or was told, in order, each with the
-- moment at which the mark was brought there; the failed flag, each time that it loaded it; and how
-- often it was told that the keeper's seat set it
pub record WatcherState : Type 0 where
  pub table : TableId
  pub counts : List Raised
  pub flags : List Bool
  pub stops : ℕ

-- a watcher that knows nothing
abbrev pub new_watcher : TableId → WatcherState
new_watcher table = record { table = table; counts = []; flags = []; stops = 0 }

-- one more count was loaded, or told
abbrev pub with_count : WatcherState → Raised → WatcherState
with_count w x = record w { counts = w.counts ++ x ∷ [] }

-- the flag was loaded once more
abbrev pub with_flag : WatcherState → Bool → WatcherState
with_flag w flag = record w { flags = w.flags ++ flag ∷ [] }

-- it was told once more that the flag was set
abbrev pub with_stop : WatcherState → WatcherState
with_stop w = record w { stops = w.stops + 1 }

-- a watcher that knows what another knows too
abbrev pub informed : WatcherState → WatcherState → WatcherState
informed w other = record {
  table = w.table;
  counts = w.counts ++ other.counts;
  flags = w.flags ++ other.flags;
  stops = w.stops + other.stops;
}

-- each of the counts was reached by this one
abbrev pub AreReached : List Raised → ℕ → Type 0
AreReached counts count = All (λ (x : Raised). x.count ≤ count) counts

-- A mark that was raised so has come to this count, which is one of those, or as it begins.
pub record HasCome (raised : List Raised) (x : Raised) : Type 0 where
  pub within : x.count ≤ (top raised).count
  pub noted : (x ≡ unraised) ⊎ Contains raised x

-- so it is with each of the counts
abbrev pub AreNoted : List Raised → List Raised → Type 0
AreNoted counts raised = All (HasCome raised) counts

-- the flag is among those that were loaded
abbrev pub HasFailed : List Bool → Type 0
HasFailed flags = Contains flags true
