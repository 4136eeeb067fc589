-- A counter: what a call is answered, and the number after it.
use Rattle.std.specs.Prelude.{◌≡◌, ℕ, ℤ, pos, neg_ℤ, ◌+ℤ◌, ◌≤ℤ◌, ◌*◌, ◌^◌}
use Rattle.calls.specs.declared.call.Call.{Call}
use Rattle.calls.specs.declared.reply.Reply.{Reply}
use Rattle.calls.specs.Rules.{IsStep, InRange}

-- What n bumps can reach.
pub record IsWithin (s : ℤ) (n : ℕ) : Type 0 where
  pub low : neg_ℤ (pos (n * 2 ^ 63)) ≤ℤ s
  pub high : s ≤ℤ pos (n * 2 ^ 63)

-- When the call gets the reply.
abbrev pub Row : ℤ → Call → Reply → Type 0
Row s (Call.Bump n) Reply.Done = Unit {0}
Row s Call.Read (Reply.Total v) = v ≡ s
-- no other reply is given
Row s c r = ⊥

-- At the number s the call may be answered so.
abbrev pub Answers : ℤ → Call → Reply → Type 0
Answers s c r = InRange c r × Row s c r

-- The number after the call was answered so.
abbrev pub after : ℤ → Call → Reply → ℤ
after s (Call.Bump n) r = s +ℤ n
after s c r = s

-- The call, answered so, leads from s to t.
abbrev pub does : ℤ → Call → Reply → ℤ → Type 0
does s c r t = Answers s c r × (t ≡ after s c r)

-- The calls of a counter.
abbrev pub CanLook : ℤ → Call → Type 0
CanLook s (Call.Bump n) = IsStep n
CanLook s Call.Read = Unit {0}
CanLook s c = ⊥
