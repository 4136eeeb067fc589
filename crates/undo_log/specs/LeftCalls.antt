-- What calls of live transactions have left to the commits.
use Rattle.std.specs.Prelude.{ℕ, ◌≡◌, List, Contains}
use Rattle.calls.specs.declared.call.Call.{Call}
use Rattle.calls.specs.Rules.{left_by}
use Rattle.calls.specs.Transactions.{Event, Entry, Asked, Deferred, own}

-- What was asked for leaves the call at the place to the commit.
abbrev pub IsLeftBy : Entry → (at : ℕ) → Call → Type 0
IsLeftBy (Asked x) at c = (x.at ≡ at) × Contains (left_by x.call x.reply) c
IsLeftBy (Deferred place d) at c = ⊥

-- A call among the entries has left this one at the place to the commit.
abbrev pub IsLeftAmong : List Entry → (at : ℕ) → Call → Type 0
IsLeftAmong entries at c = (x : Event) × Contains entries (Asked x) × (x.at ≡ at) ×
    Contains (left_by x.call x.reply) c

-- A call of the transaction that is not undone has left this one at the place to its commit. What
-- others asked for does not count.
abbrev pub IsGoing : List (ℕ × Entry) → (n at : ℕ) → Call → Type 0
IsGoing entries n at c = IsLeftAmong (own n entries) at c

-- What the call leaves is going already: nothing can be left twice.
abbrev pub GoesTwice : List (ℕ × Entry) → ℕ → Event → Type 0
GoesTwice entries n e = (c : Call) × Contains (left_by e.call e.reply) c × IsGoing entries n e.at c
