-- A stock: what a call is answered, and the amount after it.
use Rattle.std.specs.Prelude.{◌≡◌, ℕ, pos, ◌<◌, ◌≤◌, ◌+◌, ◌-◌, ◌*◌, ◌^◌}
use Rattle.calls.specs.declared.call.Call.{Call}
use Rattle.calls.specs.declared.reply.Reply.{Reply}
use Rattle.calls.specs.Rules.{IsAmount, InRange}

-- What n fillings can reach.
abbrev pub IsWithin : ℕ → ℕ → Type 0
IsWithin s n = s ≤ n * 2 ^ 63

-- When the call gets the reply.
abbrev pub Row : ℕ → Call → Reply → Type 0
Row s (Call.Spend n) Reply.Yes = n ≤ s
Row s (Call.Spend n) Reply.No = s < n
Row s Call.Level (Reply.Total v) = v ≡ pos s
Row s (Call.Fill n) Reply.Done = Unit {0}
-- no other reply is given
Row s c r = ⊥

-- At the amount s the call may be answered so.
abbrev pub Answers : ℕ → Call → Reply → Type 0
Answers s c r = InRange c r × Row s c r

-- The amount after the call was answered so.
abbrev pub after : ℕ → Call → Reply → ℕ
after s (Call.Spend n) Reply.Yes = s - n
after s (Call.Fill n) r = s + n
after s c r = s

-- The call, answered so, leads from s to t.
abbrev pub does : ℕ → Call → Reply → ℕ → Type 0
does s c r t = Answers s c r × (t ≡ after s c r)

-- The calls of a stock.
abbrev pub CanLook : ℕ → Call → Type 0
CanLook s (Call.Spend n) = IsAmount n
CanLook s Call.Level = Unit {0}
CanLook s (Call.Fill n) = IsAmount n
CanLook s c = ⊥
