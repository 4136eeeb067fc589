-- A set of numbers: what a call is answered, and what is in the set after it.
use Rattle.std.specs.Prelude.{◌≡◌, ℕ, ◌≤◌, true, false}
use Rattle.std.specs.Ordering.{nat_cmp}
use Rattle.std.specs.FinSet.{FinSet, contains, insert, remove}
use Rattle.calls.specs.declared.call.Call.{Call}
use Rattle.calls.specs.declared.reply.Reply.{Reply}
use Rattle.calls.specs.Rules.{top, InRange}

abbrev pub NumberSet : Type 0
NumberSet = FinSet nat_cmp

-- No element is in the set.
abbrev pub IsEmpty : NumberSet → Type 0
IsEmpty s = (x : ℕ) → x ≤ top → contains s x ≡ false

-- When the call gets the reply. Any element may be picked.
abbrev pub Row : NumberSet → Call → Reply → Type 0
Row s (Call.Contains x) Reply.Yes = contains s x ≡ true
Row s (Call.Contains x) Reply.No = contains s x ≡ false
Row s (Call.SetAdd x) Reply.Yes = contains s x ≡ false
Row s (Call.SetAdd x) Reply.No = contains s x ≡ true
Row s (Call.SetRemove x) Reply.Yes = contains s x ≡ true
Row s (Call.SetRemove x) Reply.No = contains s x ≡ false
Row s Call.Pick (Reply.Id x) = contains s x ≡ true
Row s Call.Pick Reply.Nothing = IsEmpty s
-- no other reply is given
Row s c r = ⊥

-- In the set s the call may be answered so.
abbrev pub Answers : NumberSet → Call → Reply → Type 0
Answers s c r = InRange c r × Row s c r

-- What is in the set after the call was answered so.
abbrev pub after : NumberSet → Call → Reply → NumberSet
after s (Call.SetAdd x) Reply.Yes = insert s x
after s (Call.SetRemove x) Reply.Yes = remove s x
after s Call.Pick (Reply.Id x) = remove s x
after s c r = s

-- The call, answered so, leads from s to t.
abbrev pub does : NumberSet → Call → Reply → NumberSet → Type 0
does s c r t = Answers s c r × (t ≡ after s c r)

-- The calls of a set.
abbrev pub CanLook : NumberSet → Call → Type 0
CanLook s (Call.Contains x) = Unit {0}
CanLook s (Call.SetAdd x) = Unit {0}
CanLook s (Call.SetRemove x) = Unit {0}
CanLook s Call.Pick = Unit {0}
CanLook s c = ⊥
