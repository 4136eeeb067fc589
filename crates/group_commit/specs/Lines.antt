-- The one history of a book, as the book's seat and its clients know it.
use Rattle.std.specs.Prelude.{◌≡◌, ◌≢◌, ℕ, ◌+◌, ◌==◌, ◌⊎◌, Bool, false, List, ◌∷◌, [], ◌++◌, Option}
use Rattle.std.specs.Prelude.{None, Some, filter, map, Contains, AllPairs}
use mathlib.Core.List.{IsPrefix}
use Rattle.atomic_table.specs.Seated.{TableId}
use Rattle.txn.specs.declared.actions.BookStep.{BookStep}
use Rattle.group_commit.specs.declared.view.Party.{Party}
use Rattle.group_commit.specs.Parties.{Among}

-- what the book's seat knows: the whole history, and how many clients were made
pub record BookState : Type 0 where
  pub table : TableId
  pub all : List BookStep
  pub clients : ℕ

-- what a client knows: its number, and the history up to some step
pub record ClientState : Type 0 where
  pub table : TableId
  pub number : ℕ
  pub seen : List BookStep

-- what several clients know that have left: the number of each, and the history up to some step
pub record CrowdState : Type 0 where
  pub table : TableId
  pub clients : List Party

abbrev pub is_client : ℕ → Option ℕ → Bool
is_client n None = false
is_client n (Some m) = m == n

-- whether the step is one of the party's: the client of this number took it
abbrev pub concerns : ℕ → BookStep → Bool
concerns n step = is_client n step.client

-- a party's part of a history, in order
abbrev pub steps_of : ℕ → List BookStep → List BookStep
steps_of n steps = filter (concerns n) steps

-- what a client has seen of itself
abbrev pub mine_of : ClientState → List BookStep
mine_of c = steps_of c.number c.seen

-- the history is one step longer
abbrev pub stepped : BookState → BookStep → BookState
stepped b step = record { table = b.table; all = b.all ++ step ∷ []; clients = b.clients }

-- one client more was made
abbrev pub with_client : BookState → BookState
with_client b = record { table = b.table; all = b.all; clients = b.clients + 1 }

-- the client has seen this
abbrev pub seeing : ClientState → List BookStep → ClientState
seeing c steps = record { table = c.table; number = c.number; seen = steps }

-- a crowd of this client alone
abbrev pub crowd_of : ClientState → CrowdState
crowd_of c = record {
  table = c.table;
  clients = record { number = c.number; seen = c.seen } ∷ [];
}

-- the numbers of some clients, in order
abbrev pub numbers_of : List Party → List ℕ
numbers_of clients = map (λ (p : Party). p.number) clients

-- no two of the numbers are the same
abbrev pub AreDifferent : List ℕ → Type 0
AreDifferent numbers = AllPairs (λ m n. m ≢ n) numbers

-- each step that has a client is of one of these
abbrev pub AreOf : List ℕ → List BookStep → Type 0
AreOf numbers steps =
    (x : BookStep) → Contains steps x → (n : ℕ) → x.client ≡ Some n → Contains numbers n

-- of any two of them, what one has seen begins what the other has seen
abbrev pub HaveSeenOne : List Party → Type 0
HaveSeenOne clients = (p q : Party) → Among p clients → Among q clients →
    IsPrefix p.seen q.seen ⊎ IsPrefix q.seen p.seen

-- it is one of the two lists, and both begin it
pub record IsLonger (one other longer : List BookStep) : Type 0 where
  pub begins_one : IsPrefix one longer
  pub begins_other : IsPrefix other longer
  pub either : (longer ≡ one) ⊎ (longer ≡ other)
