-- What of a call does not depend on a content: its kind, its replies, its ranges, what it needs,
-- its inverse, what it leaves to the commit, and who may ask for it.
use Rattle.std.specs.Prelude.{ℕ, ◌≤◌, ◌-◌, ◌^◌, ℤ, pos, negsuc, ◌<ℤ◌, List, [], ◌∷◌, ◌≡◌, Option}
use Rattle.std.specs.Prelude.{Some, None, MatchOption, neg_ℤ, length}
use Rattle.calls.specs.declared.call.Call.{Call}
use Rattle.calls.specs.declared.reply.Reply.{Reply}
use Rattle.calls.specs.declared.kind.Kind.{Kind}
use Rattle.calls.specs.declared.need.Mode.{Mode}
use Rattle.calls.specs.declared.need.Need.{Need}
use Rattle.calls.specs.declared.refusal.Refusal.{Refusal}
use Rattle.calls.specs.declared.format.Format.{Format}
use Rattle.calls.specs.Formats.{max_value, widest}

-- the greatest element, key, priority, tag and identifier
abbrev pub top : ℕ
top = 2 ^ 64 - 1

-- A counter is bumped by less than 2 ^ 63 either way, so that each bump can be taken back.
pub record IsStep (n : ℤ) : Type 0 where
  pub above : negsuc (2 ^ 63 - 1) <ℤ n
  pub below : n <ℤ pos (2 ^ 63)

-- At once less than 2 ^ 63 is taken out of a stock or of a quota, or added to it, so that what few
-- steps can reach is bounded as for a counter.
abbrev pub IsAmount : ℕ → Type 0
IsAmount n = n ≤ 2 ^ 63 - 1

-- A value may be any list of bytes here: how long one may be is what a client is refused for, and
-- no part of the meaning.
abbrev pub CallInRange : Call → Type 0
CallInRange (Call.Contains x) = x ≤ top
CallInRange (Call.SetAdd x) = x ≤ top
CallInRange (Call.SetRemove x) = x ≤ top
CallInRange Call.Pick = Unit {0}
CallInRange (Call.Get k) = k ≤ top
CallInRange (Call.Put k v) = k ≤ top
CallInRange (Call.MapRemove k) = k ≤ top
CallInRange (Call.Ceiling k) = k ≤ top
CallInRange (Call.QueueAdd p g) = (p ≤ top) × (g ≤ top)
CallInRange Call.Take = Unit {0}
CallInRange Call.Least = Unit {0}
CallInRange (Call.Pluck p g) = (p ≤ top) × (g ≤ top)
CallInRange (Call.Bump n) = IsStep n
CallInRange Call.Read = Unit {0}
CallInRange Call.Draw = Unit {0}
CallInRange (Call.Release x) = x ≤ top
CallInRange (Call.Free x) = x ≤ top
CallInRange (Call.Spend n) = IsAmount n
CallInRange Call.Level = Unit {0}
CallInRange (Call.Fill n) = IsAmount n
CallInRange (Call.QuotaSpend k n) = (k ≤ top) × IsAmount n
CallInRange (Call.QuotaLevel k) = k ≤ top
CallInRange (Call.QuotaFill k n) = (k ≤ top) × IsAmount n
CallInRange (Call.Refund k n) = (k ≤ top) × IsAmount n

abbrev pub ReplyInRange : Reply → Type 0
ReplyInRange (Reply.Entry k v) = k ≤ top
ReplyInRange (Reply.Item p g) = (p ≤ top) × (g ≤ top)
ReplyInRange (Reply.Id x) = x ≤ top
ReplyInRange r = Unit {0}

-- No row is for a call or a reply with a number out of range.
abbrev pub InRange : Call → Reply → Type 0
InRange c r = CallInRange c × ReplyInRange r

abbrev pub kind_of : Call → Kind
kind_of (Call.Contains x) = Kind.Set
kind_of (Call.SetAdd x) = Kind.Set
kind_of (Call.SetRemove x) = Kind.Set
kind_of Call.Pick = Kind.Set
kind_of (Call.Get k) = Kind.Map
kind_of (Call.Put k v) = Kind.Map
kind_of (Call.MapRemove k) = Kind.Map
kind_of (Call.Ceiling k) = Kind.Map
kind_of (Call.QueueAdd p g) = Kind.Queue
kind_of Call.Take = Kind.Queue
kind_of Call.Least = Kind.Queue
kind_of (Call.Pluck p g) = Kind.Queue
kind_of (Call.Bump n) = Kind.Counter
kind_of Call.Read = Kind.Counter
kind_of Call.Draw = Kind.Pool
kind_of (Call.Release x) = Kind.Pool
kind_of (Call.Free x) = Kind.Pool
kind_of (Call.Spend n) = Kind.Stock
kind_of Call.Level = Kind.Stock
kind_of (Call.Fill n) = Kind.Stock
kind_of (Call.QuotaSpend k n) = Kind.Quotas
kind_of (Call.QuotaLevel k) = Kind.Quotas
kind_of (Call.QuotaFill k n) = Kind.Quotas
kind_of (Call.Refund k n) = Kind.Quotas

-- A queued release leaves the freeing of its identifier.
abbrev pub left_by : Call → Reply → List Call
left_by (Call.Release x) Reply.Queued = Call.Free x ∷ []
left_by c r = []

-- Two who read the same keys, or two who add at them, do not disturb each other; nor do those who
-- take from a stock or a quota and those who give to it.
abbrev pub Compatible : Mode → Mode → Type 0
Compatible Mode.Read Mode.Read = Unit {0}
Compatible Mode.Add Mode.Add = Unit {0}
Compatible Mode.Take Mode.Take = Unit {0}
Compatible Mode.Take Mode.Give = Unit {0}
Compatible Mode.Give Mode.Take = Unit {0}
Compatible Mode.Give Mode.Give = Unit {0}
Compatible m n = ⊥

-- Some key is in both spans.
abbrev pub Overlap : Need → Need → Type 0
Overlap a b = (a.low ≤ b.high) × (b.low ≤ a.high)

-- Two transactions may not both hold the needs, on one collection.
abbrev pub Conflict : Need → Need → Type 0
Conflict a b = Overlap a b × (Compatible a.mode b.mode → ⊥)

abbrev read_at : ℕ → ℕ → Need
read_at low high = record { low = low; high = high; mode = Mode.Read }

abbrev write_at : ℕ → ℕ → Need
write_at low high = record { low = low; high = high; mode = Mode.Write }

abbrev add_at : ℕ → ℕ → Need
add_at low high = record { low = low; high = high; mode = Mode.Add }

-- A call of a stock uses all of it, and one of quotas a key.
abbrev whole_in : Mode → Need
whole_in mode = record { low = 0; high = top; mode = mode }

abbrev key_in : Mode → ℕ → Need
key_in mode k = record { low = k; high = k; mode = mode }

-- What a call with its reply needs.
abbrev pub need_of : Call → Reply → Need
need_of (Call.Contains x) r = read_at x x
need_of (Call.SetAdd x) Reply.Yes = write_at x x
need_of (Call.SetAdd x) Reply.No = read_at x x
need_of (Call.SetRemove x) Reply.Yes = write_at x x
need_of (Call.SetRemove x) Reply.No = read_at x x
need_of Call.Pick (Reply.Id x) = write_at x x
need_of Call.Pick Reply.Nothing = read_at 0 top
need_of (Call.Get k) r = read_at k k
need_of (Call.Put k v) r = write_at k k
need_of (Call.MapRemove k) (Reply.Value v) = write_at k k
need_of (Call.MapRemove k) Reply.Nothing = read_at k k
need_of (Call.Ceiling k) (Reply.Entry j v) = read_at k j
need_of (Call.Ceiling k) Reply.Nothing = read_at k top
need_of (Call.QueueAdd p g) r = add_at p p
need_of Call.Take (Reply.Item p g) = write_at 0 p
need_of Call.Take Reply.Nothing = read_at 0 top
need_of Call.Least (Reply.Item p g) = read_at 0 p
need_of Call.Least Reply.Nothing = read_at 0 top
need_of (Call.Bump n) r = add_at 0 top
need_of Call.Read r = read_at 0 top
need_of Call.Draw (Reply.Id x) = write_at x x
need_of (Call.Release x) Reply.Queued = write_at x x
need_of (Call.Release x) Reply.Absent = read_at x x
need_of (Call.Free x) r = write_at x x
need_of (Call.Pluck p g) r = write_at p p
need_of (Call.Spend n) Reply.Yes = whole_in Mode.Take
need_of (Call.Spend n) Reply.No = whole_in Mode.Read
need_of Call.Level r = whole_in Mode.Read
need_of (Call.Fill n) r = whole_in Mode.Give
need_of (Call.QuotaSpend k n) Reply.Yes = key_in Mode.Take k
need_of (Call.QuotaSpend k n) Reply.No = key_in Mode.Read k
need_of (Call.QuotaLevel k) r = key_in Mode.Read k
need_of (Call.QuotaFill k n) r = key_in Mode.Write k
need_of (Call.Refund k n) r = key_in Mode.Give k
-- no other reply is given
need_of c r = write_at 0 top

-- Calls, with their replies, that two transactions may both have made.
abbrev pub Apart : Call → Reply → Call → Reply → Type 0
Apart a ra b rb = Conflict (need_of a ra) (need_of b rb) → ⊥

-- The call that takes back what a call did, answered so; none where nothing changed.
abbrev pub inverse_of : Call → Reply → Option Call
inverse_of (Call.SetAdd x) Reply.Yes = Some (Call.SetRemove x)
inverse_of (Call.SetRemove x) Reply.Yes = Some (Call.SetAdd x)
inverse_of Call.Pick (Reply.Id x) = Some (Call.SetAdd x)
inverse_of (Call.Put k v) Reply.Nothing = Some (Call.MapRemove k)
inverse_of (Call.Put k v) (Reply.Value o) = Some (Call.Put k o)
inverse_of (Call.MapRemove k) (Reply.Value o) = Some (Call.Put k o)
inverse_of (Call.QueueAdd p g) Reply.Done = Some (Call.Pluck p g)
inverse_of Call.Take (Reply.Item p g) = Some (Call.QueueAdd p g)
inverse_of (Call.Bump n) Reply.Done = Some (Call.Bump (neg_ℤ n))
inverse_of Call.Draw (Reply.Id x) = Some (Call.Free x)
inverse_of (Call.Spend n) Reply.Yes = Some (Call.Fill n)
inverse_of (Call.QuotaSpend k n) Reply.Yes = Some (Call.Refund k n)
inverse_of (Call.QuotaFill k n) Reply.Done = Some (Call.QuotaSpend k n)
inverse_of c r = None

-- The inverse puts no value back.
abbrev pub PutsNothingBack : Call → Reply → Type 0
PutsNothingBack c r = (k : ℕ) (old : List ℕ) → inverse_of c r ≡ Some (Call.Put k old) → ⊥

-- What the inverse of a call is answered where it takes back what the call did, answered so.
abbrev pub undone_by : Call → Reply → Reply
undone_by (Call.SetAdd x) Reply.Yes = Reply.Yes
undone_by (Call.SetRemove x) Reply.Yes = Reply.Yes
undone_by Call.Pick (Reply.Id x) = Reply.Yes
undone_by (Call.Put k v) Reply.Nothing = Reply.Value v
undone_by (Call.Put k v) (Reply.Value o) = Reply.Value v
undone_by (Call.MapRemove k) (Reply.Value o) = Reply.Nothing
undone_by (Call.QuotaFill k n) Reply.Done = Reply.Yes
undone_by c r = Reply.Done

-- What a call did, answered so, is taken back: its inverse leads from t to s. Where there is none,
-- nothing changed.
abbrev pub Undoes : {C : Type 0} → (C → Call → Reply → C → Type 0) → (Call → Reply → Option Call) →
    C → Call → Reply → C → Type 0
Undoes does inverse t c r s = MatchOption (inverse c r) (s ≡ t)
    (λ back. (reply : Reply) × does t back reply s)

-- A client can ask for the call.
abbrev pub Askable : Call → Type 0
Askable (Call.Bump n) = IsStep n
Askable (Call.Pluck p g) = ⊥
Askable (Call.Free x) = ⊥
Askable (Call.Spend n) = IsAmount n
Askable (Call.Fill n) = ⊥
Askable (Call.QuotaSpend k n) = IsAmount n
Askable (Call.QuotaFill k n) = IsAmount n
Askable (Call.Refund k n) = ⊥
Askable c = Unit {0}

-- No value that a client puts is longer than the format has it.
abbrev pub IsShort : Format → Call → Type 0
IsShort f (Call.Put k v) = length v ≤ max_value f
IsShort f c = Unit {0}

-- A client's call is refused so.
abbrev pub CallRefused : Call → Refusal → Type 0
CallRefused c Refusal.BadArg = Askable c → ⊥
CallRefused c Refusal.TooLong = Askable c × (IsShort widest c → ⊥)
CallRefused c r = ⊥

-- The call may run in a commit.
abbrev pub Disposable : Call → Type 0
Disposable (Call.Bump n) = Unit {0}
Disposable (Call.Free x) = Unit {0}
Disposable (Call.Fill n) = Unit {0}
Disposable c = ⊥

-- The call is made without memory: it puts nothing into a collection.
abbrev pub TakesNoMemory : Call → Type 0
TakesNoMemory (Call.SetAdd x) = ⊥
TakesNoMemory (Call.Put k v) = ⊥
TakesNoMemory (Call.QueueAdd p g) = ⊥
TakesNoMemory Call.Draw = ⊥
TakesNoMemory (Call.QuotaFill k n) = ⊥
TakesNoMemory (Call.Refund k n) = ⊥
TakesNoMemory c = Unit {0}

-- A reply of the call may hold a value, which is copied.
abbrev pub AsksForValue : Call → Type 0
AsksForValue (Call.Get k) = Unit {0}
AsksForValue (Call.Put k v) = Unit {0}
AsksForValue (Call.MapRemove k) = Unit {0}
AsksForValue (Call.Ceiling k) = Unit {0}
AsksForValue c = ⊥

-- The call, answered so, is taken back without memory: its inverse, where there is one, puts nothing in, and no reply of it
-- holds a value.
abbrev pub IsUndoneInPlace : Call → Reply → Type 0
IsUndoneInPlace c r = (back : Call) → inverse_of c r ≡ Some back → TakesNoMemory back × (AsksForValue back → ⊥)

-- A client can put the call off to its commit.
abbrev pub Deferrable : Call → Type 0
Deferrable (Call.Bump n) = IsStep n
Deferrable (Call.Fill n) = IsAmount n
Deferrable c = ⊥

-- The replies that a call has.
abbrev pub Pairs : Call → Reply → Type 0
Pairs (Call.Contains x) Reply.Yes = Unit {0}
Pairs (Call.Contains x) Reply.No = Unit {0}
Pairs (Call.SetAdd x) Reply.Yes = Unit {0}
Pairs (Call.SetAdd x) Reply.No = Unit {0}
Pairs (Call.SetRemove x) Reply.Yes = Unit {0}
Pairs (Call.SetRemove x) Reply.No = Unit {0}
Pairs Call.Pick (Reply.Id x) = Unit {0}
Pairs Call.Pick Reply.Nothing = Unit {0}
Pairs (Call.Get k) (Reply.Value v) = Unit {0}
Pairs (Call.Get k) Reply.Nothing = Unit {0}
Pairs (Call.Put k v) Reply.Nothing = Unit {0}
Pairs (Call.Put k v) (Reply.Value o) = Unit {0}
Pairs (Call.MapRemove k) (Reply.Value o) = Unit {0}
Pairs (Call.MapRemove k) Reply.Nothing = Unit {0}
Pairs (Call.Ceiling k) (Reply.Entry j v) = Unit {0}
Pairs (Call.Ceiling k) Reply.Nothing = Unit {0}
Pairs (Call.QueueAdd p g) Reply.Done = Unit {0}
Pairs Call.Take (Reply.Item p g) = Unit {0}
Pairs Call.Take Reply.Nothing = Unit {0}
Pairs Call.Least (Reply.Item p g) = Unit {0}
Pairs Call.Least Reply.Nothing = Unit {0}
Pairs (Call.Bump n) Reply.Done = Unit {0}
Pairs Call.Read (Reply.Total v) = Unit {0}
Pairs Call.Draw (Reply.Id x) = Unit {0}
Pairs (Call.Release x) Reply.Queued = Unit {0}
Pairs (Call.Release x) Reply.Absent = Unit {0}
Pairs (Call.Spend n) Reply.Yes = Unit {0}
Pairs (Call.Spend n) Reply.No = Unit {0}
Pairs Call.Level (Reply.Total v) = Unit {0}
Pairs (Call.QuotaSpend k n) Reply.Yes = Unit {0}
Pairs (Call.QuotaSpend k n) Reply.No = Unit {0}
Pairs (Call.QuotaLevel k) (Reply.Total v) = Unit {0}
Pairs (Call.QuotaFill k n) Reply.Done = Unit {0}
Pairs c r = ⊥
