-- Quotas: at each key an amount, what a call is answered, and the amounts after it.
use Rattle.std.specs.Prelude.{◌≡◌, ℕ, zero, suc, pos, ◌<◌, ◌≤◌, ◌+◌, ◌-◌, ◌*◌, ◌^◌}
use Rattle.std.specs.Ordering.{nat_cmp}
use Rattle.std.specs.FinMap.{FinMap, get, insert, remove}
use Rattle.calls.specs.declared.call.Call.{Call}
use Rattle.calls.specs.declared.reply.Reply.{Reply}
use Rattle.calls.specs.Bags.{copies_of}
use Rattle.calls.specs.Rules.{IsAmount, InRange}

-- At each key that is there, its amount less one: no key is there with nothing.
abbrev pub Quotas : Type 0
Quotas = FinMap nat_cmp ℕ

-- The amount at a key: nothing where the key is not there.
abbrev pub level : Quotas → ℕ → ℕ
level q k = copies_of (get q k)

-- The amount at the key is this one.
abbrev pub with_level : Quotas → ℕ → ℕ → Quotas
with_level q k zero = remove q k
with_level q k (suc n) = insert q k n

-- What n fillings can reach, at each key.
abbrev pub IsWithin : Quotas → ℕ → Type 0
IsWithin q n = (k : ℕ) → level q k ≤ n * 2 ^ 63

-- Each amount is below the bound.
abbrev pub AreBelow : ℕ → Quotas → Type 0
AreBelow bound q = (k : ℕ) → level q k < bound

-- When the call gets the reply.
abbrev pub Row : Quotas → Call → Reply → Type 0
Row q (Call.QuotaSpend k n) Reply.Yes = n ≤ level q k
Row q (Call.QuotaSpend k n) Reply.No = level q k < n
Row q (Call.QuotaLevel k) (Reply.Total v) = v ≡ pos (level q k)
Row q (Call.QuotaFill k n) Reply.Done = Unit {0}
Row q (Call.Refund k n) Reply.Done = Unit {0}
-- no other reply is given
Row q c r = ⊥

-- With these amounts the call may be answered so.
abbrev pub Answers : Quotas → Call → Reply → Type 0
Answers q c r = InRange c r × Row q c r

-- The amounts after the call was answered so.
abbrev pub after : Quotas → Call → Reply → Quotas
after q (Call.QuotaSpend k n) Reply.Yes = with_level q k (level q k - n)
after q (Call.QuotaFill k n) r = with_level q k (level q k + n)
after q (Call.Refund k n) r = with_level q k (level q k + n)
after q c r = q

-- The call, answered so, leads from s to t.
abbrev pub does : Quotas → Call → Reply → Quotas → Type 0
does s c r t = Answers s c r × (t ≡ after s c r)

-- The calls of quotas.
abbrev pub CanLook : Quotas → Call → Type 0
CanLook q (Call.QuotaSpend k n) = IsAmount n
CanLook q (Call.QuotaLevel k) = Unit {0}
CanLook q (Call.QuotaFill k n) = IsAmount n
CanLook q (Call.Refund k n) = IsAmount n
CanLook q c = ⊥
