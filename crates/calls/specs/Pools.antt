-- A pool of identifiers: what a call is answered, and what is taken after it.
use Rattle.std.specs.Prelude.{◌≡◌, true, false}
use Rattle.std.specs.FinSet.{contains, insert, remove}
use Rattle.calls.specs.declared.call.Call.{Call}
use Rattle.calls.specs.declared.reply.Reply.{Reply}
use Rattle.calls.specs.Rules.{InRange}
use Rattle.calls.specs.Sets.{NumberSet}

-- When the call gets the reply. Any identifier that is not taken may be drawn.
abbrev pub Row : NumberSet → Call → Reply → Type 0
Row s Call.Draw (Reply.Id x) = contains s x ≡ false
Row s (Call.Release x) Reply.Queued = contains s x ≡ true
Row s (Call.Release x) Reply.Absent = contains s x ≡ false
Row s (Call.Free x) Reply.Done = contains s x ≡ true
-- no other reply is given
Row s c r = ⊥

-- Where those in s are taken, the call may be answered so.
abbrev pub Answers : NumberSet → Call → Reply → Type 0
Answers s c r = InRange c r × Row s c r

-- What is taken after the call was answered so.
abbrev pub after : NumberSet → Call → Reply → NumberSet
after s Call.Draw (Reply.Id x) = insert s x
after s (Call.Free x) r = remove s x
after s c r = s

-- The call, answered so, leads from s to t.
abbrev pub does : NumberSet → Call → Reply → NumberSet → Type 0
does s c r t = Answers s c r × (t ≡ after s c r)

-- The calls of a pool. One that frees finds its identifier taken.
abbrev pub CanLook : NumberSet → Call → Type 0
CanLook s Call.Draw = Unit {0}
CanLook s (Call.Release x) = Unit {0}
CanLook s (Call.Free x) = Answers s (Call.Free x) Reply.Done
CanLook s c = ⊥
