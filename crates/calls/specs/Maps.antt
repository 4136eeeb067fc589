-- A map from numbers to bytes: what a call is answered, and what is in the map after it.
use Rattle.std.specs.Prelude.{◌≡◌, ℕ, ◌<◌, ◌≤◌, List, Some, None}
use Rattle.std.specs.Ordering.{nat_cmp}
use Rattle.std.specs.FinMap.{FinMap, get, insert, remove}
use Rattle.calls.specs.declared.call.Call.{Call}
use Rattle.calls.specs.declared.reply.Reply.{Reply}
use Rattle.calls.specs.Rules.{top, InRange}

abbrev pub Table : Type 0
Table = FinMap nat_cmp (List ℕ)

-- j is the least key that is at least k, and v is its value.
pub record IsCeiling (m : Table) (k j : ℕ) (v : List ℕ) : Type 0 where
  pub there : get m j ≡ Some v
  pub upto : k ≤ j
  pub none_between : (i : ℕ) → k ≤ i → i < j → get m i ≡ None

-- No key from k to the greatest is in the map.
abbrev pub HasNoCeiling : Table → ℕ → Type 0
HasNoCeiling m k = (i : ℕ) → k ≤ i → i ≤ top → get m i ≡ None

-- When the call gets the reply.
abbrev pub Row : Table → Call → Reply → Type 0
Row m (Call.Get k) (Reply.Value v) = get m k ≡ Some v
Row m (Call.Get k) Reply.Nothing = get m k ≡ None
Row m (Call.Put k v) (Reply.Value o) = get m k ≡ Some o
Row m (Call.Put k v) Reply.Nothing = get m k ≡ None
Row m (Call.MapRemove k) (Reply.Value o) = get m k ≡ Some o
Row m (Call.MapRemove k) Reply.Nothing = get m k ≡ None
Row m (Call.Ceiling k) (Reply.Entry j v) = IsCeiling m k j v
Row m (Call.Ceiling k) Reply.Nothing = HasNoCeiling m k
-- no other reply is given
Row m c r = ⊥

-- In the map m the call may be answered so.
abbrev pub Answers : Table → Call → Reply → Type 0
Answers m c r = InRange c r × Row m c r

-- What is in the map after the call was answered so.
abbrev pub after : Table → Call → Reply → Table
after m (Call.Put k v) r = insert m k v
after m (Call.MapRemove k) (Reply.Value o) = remove m k
after m c r = m

-- The call, answered so, leads from s to t.
abbrev pub does : Table → Call → Reply → Table → Type 0
does s c r t = Answers s c r × (t ≡ after s c r)

-- The calls of a map.
abbrev pub CanLook : Table → Call → Type 0
CanLook m (Call.Get k) = Unit {0}
CanLook m (Call.Put k v) = Unit {0}
CanLook m (Call.MapRemove k) = Unit {0}
CanLook m (Call.Ceiling k) = Unit {0}
CanLook m c = ⊥
