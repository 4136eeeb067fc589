-- Who takes which step of a history.
use Rattle.std.specs.Prelude.{◌≡◌, ℕ, List, Contains, Option, Some, None, Ok, IsSome}
use Rattle.txn.specs.declared.actions.Action.{Action}
use Rattle.txn.specs.declared.actions.BookStep.{BookStep}
use Rattle.group_commit.specs.Lines.{ClientState, mine_of}

-- the number of the transaction that a step is of
abbrev pub transaction_of : Action → Option ℕ
transaction_of (Action.Enter n a) = Some n
transaction_of (Action.Ask n target call when a) = Some n
transaction_of (Action.Commit n a) = Some n
transaction_of (Action.Back n a) = Some n
transaction_of (Action.Ended n a) = Some n
transaction_of action = None

-- Cuts, gatherings and freezes are steps of no client, and each other step is of one.
abbrev pub MayTake : (client : Option ℕ) → Action → Type 0
MayTake client (Action.Cut count a) = client ≡ None
MayTake client (Action.Gather a) = client ≡ None
MayTake client (Action.Freeze a) = client ≡ None
MayTake client action = IsSome client

-- Each step of a history is taken by who may take it, and those of one number by one client.
pub record AreOwned (steps : List BookStep) : Type 0 where
  pub taken : (x : BookStep) → Contains steps x → MayTake x.client x.action
  pub of_one : (x y : BookStep) → Contains steps x → Contains steps y → (n : ℕ) →
      transaction_of x.action ≡ Some n → transaction_of y.action ≡ Some n → x.client ≡ y.client

abbrev pub entering : (client n : ℕ) → BookStep
entering client n = record { client = Some client; action = Action.Enter n (Ok tt) }

-- By what the client has seen of itself, it has entered the number.
abbrev pub HasEntered : ClientState → ℕ → Type 0
HasEntered c n = Contains (mine_of c) (entering c.number n)
