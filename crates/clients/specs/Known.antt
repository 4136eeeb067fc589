-- What a client of a store knows.
use Rattle.std.specs.Prelude.{ℕ, Bool, List, [], ◌∷◌, ◌++◌, Option, Some, None, All}
use Rattle.txn.specs.declared.actions.BookStep.{BookStep}
use Rattle.group_commit.specs.declared.mark.Raised.{Raised}
use Rattle.group_commit.specs.Lines.{ClientState}
use Rattle.group_commit.specs.Marks.{WatcherState}
use Rattle.group_commit.specs.Numbers.{DrawerState}
use Rattle.group_commit.specs.declared.view.Party.{Party}
use Rattle.desks.specs.Origins.{Origin}
use Rattle.desks.specs.Seen.{IsSeen}
use Rattle.clients.specs.declared.phase.Phase.{Phase}

-- a client: its number; the history up to some step; the counts that it loaded of the mark, each
-- with the moment at which the mark was brought there; the failed flag, each time that it loaded
-- it; the numbers that it drew; and its transaction
pub record Known : Type 0 where
  pub number : ℕ
  pub seen : List BookStep
  pub counts : List Raised
  pub flags : List Bool
  pub drawn : List ℕ
  pub phase : Phase

-- a client that did nothing: it has seen and loaded nothing, and has no transaction
abbrev pub newcomer : ℕ → Known
newcomer number = record {
  number = number;
  seen = [];
  counts = [];
  flags = [];
  drawn = [];
  phase = Phase.Closed;
}

-- what the seats of a client know
abbrev pub known_of : ClientState → WatcherState → DrawerState → Phase → Known
known_of line watcher drawer phase = record {
  number = line.number;
  seen = line.seen;
  counts = watcher.counts;
  flags = watcher.flags;
  drawn = drawer.drawn;
  phase = phase;
}

-- what some clients had seen when they left, with the number of each, in order, and the counts that
-- any of them had loaded of the mark
pub record SeenState : Type 0 where
  pub clients : List Party
  pub counts : List Raised

-- of one client
abbrev pub left_by : Known → SeenState
left_by known = record {
  clients = record { number = known.number; seen = known.seen } ∷ [];
  counts = known.counts;
}

-- of two lots of clients
abbrev pub both_left : SeenState → SeenState → SeenState
both_left one other = record {
  clients = one.clients ++ other.clients;
  counts = one.counts ++ other.counts;
}

-- of nobody, or of some
abbrev pub all_left : Option SeenState → SeenState
all_left None = record { clients = []; counts = [] }
all_left (Some left) = left

-- what each of them has seen is a legal history
abbrev pub HaveSeen : Origin → List Party → Type 0
HaveSeen o clients = All (λ (p : Party). IsSeen o p.seen) clients
