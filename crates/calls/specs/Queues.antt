-- A queue: what a call is answered, and what is in the queue after it.
use Rattle.std.specs.Prelude.{◌≡◌, ℕ, ◌<◌, ◌≤◌}
use Rattle.calls.specs.declared.call.Call.{Call}
use Rattle.calls.specs.declared.reply.Reply.{Reply}
use Rattle.calls.specs.Rules.{top, InRange}
use Rattle.calls.specs.Bags.{Bag, copies, add, take_out}

-- (p, g) is in the queue, and no pair in it comes before.
pub record IsLeast (q : Bag) (p g : ℕ) : Type 0 where
  pub there : 0 < copies q (p, g)
  pub no_lower : (a h : ℕ) → a < p → copies q (a, h) ≡ 0
  pub no_earlier : (h : ℕ) → h < g → copies q (p, h) ≡ 0

-- No pair is in the queue.
abbrev pub IsEmpty : Bag → Type 0
IsEmpty q = (p g : ℕ) → p ≤ top → g ≤ top → copies q (p, g) ≡ 0

-- When the call gets the reply.
abbrev pub Row : Bag → Call → Reply → Type 0
Row q (Call.QueueAdd p g) Reply.Done = Unit {0}
Row q Call.Take (Reply.Item p g) = IsLeast q p g
Row q Call.Take Reply.Nothing = IsEmpty q
Row q Call.Least (Reply.Item p g) = IsLeast q p g
Row q Call.Least Reply.Nothing = IsEmpty q
Row q (Call.Pluck p g) Reply.Done = 0 < copies q (p, g)
-- no other reply is given
Row q c r = ⊥

-- In the queue q the call may be answered so.
abbrev pub Answers : Bag → Call → Reply → Type 0
Answers q c r = InRange c r × Row q c r

-- What is in the queue after the call was answered so.
abbrev pub after : Bag → Call → Reply → Bag
after q (Call.QueueAdd p g) r = add q (p, g)
after q Call.Take (Reply.Item p g) = take_out q (p, g)
after q (Call.Pluck p g) r = take_out q (p, g)
after q c r = q

-- The call, answered so, leads from s to t.
abbrev pub does : Bag → Call → Reply → Bag → Type 0
does s c r t = Answers s c r × (t ≡ after s c r)

-- The calls of a queue. One that plucks finds its pair.
abbrev pub CanLook : Bag → Call → Type 0
CanLook q (Call.QueueAdd p g) = Unit {0}
CanLook q Call.Take = Unit {0}
CanLook q Call.Least = Unit {0}
CanLook q (Call.Pluck p g) = Answers q (Call.Pluck p g) Reply.Done
CanLook q c = ⊥
