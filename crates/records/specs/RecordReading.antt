-- What the functions of reading.rt return, one by one: the field at the front of the bytes, and the
-- bytes behind it. No public contract cites this. That what is read so is what Records spells, and
-- the other way round, is proved.
use Rattle.std.specs.Prelude.{◌≡◌, ℕ, suc, ℤ, pos, negsuc, Bool, ◌&&◌, ◌||◌, List, [], ◌∷◌, length}
use Rattle.std.specs.Prelude.{take}
use Rattle.std.specs.Prelude.{drop, Option, Some, None, Result, Ok, Err, nat_lt, nat_le, ◌==◌}
use Rattle.std.specs.Prelude.{if◌then◌else◌}
use Rattle.std.specs.List.{list_all}
use Rattle.std.specs.Int.{w64, w128, cast_signed}
use Rattle.byteorder.specs.Endian.{big_number}
use Rattle.calls.specs.declared.kind.Kind.{Kind}
use Rattle.calls.specs.declared.call.Call.{Call}
use Rattle.calls.specs.declared.reply.Reply.{Reply}
use Rattle.calls.specs.declared.item.Item.{Item}
use Rattle.calls.specs.declared.format.Format.{Format}
use Rattle.calls.specs.Formats.{max_value, widest}
use Rattle.calls.specs.Limits.{max_name}
use Rattle.records.specs.declared.record.Record.{Record}
use Rattle.records.specs.declared.record.CallRecord.{CallRecord}
use Rattle.records.specs.declared.record.LaterRecord.{LaterRecord}
use Rattle.records.specs.declared.unread.Unread.{Unread}

infixl 10 ◌>>=◌
abbrev pub ◌>>=◌ : {A B : Type 0} → Option A → (A → Option B) → Option B
None >>= f = None
(Some x) >>= f = f x

-- What a function returned, seen by view, is what reading gives, unless memory ran out.
abbrev pub Fails : {Y : Type 0} → Unread → Option Y → Type 0
Fails Unread.Memory read = Unit {0}
Fails Unread.Damage read = read ≡ None

abbrev pub Gives : {X Y : Type 0} → (X → Y) → Result X Unread → Option Y → Type 0
Gives view (Ok x) read = read ≡ Some (view x)
Gives view (Err e) read = Fails e read

-- ---- readers

abbrev pub Reader : Type 0 → Type 0
Reader X = List ℕ → Option (X × List ℕ)

-- the value itself, with nothing read
abbrev pub plain : {X : Type 0} → X → Reader X
plain x bytes = Some (x, bytes)

-- what is made of what is read
abbrev pub made : {X Y : Type 0} → (X → Y) → Reader X → Reader Y
made make read bytes = read bytes >>= λ x. Some (make x.0, x.1)

-- one behind the other
abbrev pub both : {X Y : Type 0} → Reader X → Reader Y → Reader (X × Y)
both first second bytes = first bytes >>= λ x. second x.1 >>= λ y. Some ((x.0, y.0), y.1)

-- what stands in a table at a code
abbrev pub entry_at : {X : Type 0} → List (ℕ × X) → ℕ → Option X
entry_at [] code = None
entry_at (e ∷ table) code = if code == e.0 then Some e.1 else entry_at table code

-- what is read by the reader at the code, or by another where the table has none
abbrev pub read_at : {X : Type 0} → List (ℕ × Reader X) → (ℕ → Reader X) → ℕ → Reader X
read_at [] other code bytes = other code bytes
read_at (e ∷ table) other code bytes =
    if code == e.0 then e.1 bytes else read_at table other code bytes

abbrev pub nothing : {X : Type 0} → ℕ → Reader X
nothing code bytes = None

-- ---- fields

abbrev pub byte_in : Reader ℕ
byte_in [] = None
byte_in (b ∷ bytes) = Some (b, bytes)

unfoldable pub number_in : ℕ → Reader ℕ
number_in len bytes = if nat_lt (length bytes) len then None else Some
    (big_number len bytes, drop len bytes)

-- a number of 8 bytes, made into what the code says
abbrev pub numbered : {X : Type 0} → List (ℕ × (ℕ → X)) → ℕ → Reader X
numbered table code bytes = number_in 8 bytes >>= λ n. entry_at table code >>= λ make. Some
    (make n.0, n.1)

-- a signed number of 16 bytes, if it is not negative
abbrev pub amount_from : ℤ → List ℕ → Option (ℤ × List ℕ)
amount_from (pos n) rest = Some (pos n, rest)
amount_from (negsuc n) rest = None

unfoldable pub amount_in : Reader ℤ
amount_in bytes = number_in 16 bytes >>= λ n. amount_from (cast_signed w128 n.0) n.1

-- a signed number of 16 bytes, if it is positive
abbrev pub positive_from : ℤ → List ℕ → Option (ℤ × List ℕ)
positive_from (pos (suc n)) rest = Some (pos (suc n), rest)
positive_from n rest = None

unfoldable pub positive_in : Reader ℤ
positive_in bytes = number_in 16 bytes >>= λ n. positive_from (cast_signed w128 n.0) n.1

unfoldable pub quota_in : Reader (ℕ × ℤ)
quota_in = both (number_in 8) positive_in

unfoldable pub pair_in : Reader (ℕ × ℕ)
pair_in = both (number_in 8) (number_in 8)

unfoldable pub value_in : Reader (List ℕ)
value_in bytes = number_in 2 bytes >>= λ len. if nat_lt (max_value widest) len.0 then None else if
    nat_lt
    (length len.1) len.0 then None else Some (take len.0 len.1, drop len.0 len.1)

unfoldable pub entry_in : Reader (ℕ × List ℕ)
entry_in = both (number_in 8) value_in

-- ---- kinds and names

abbrev kinds : List (ℕ × Kind)
kinds = (1, Kind.Set) ∷ (2, Kind.Map) ∷ (3, Kind.Queue) ∷ (4, Kind.Counter) ∷ (5, Kind.Pool) ∷
    (6, Kind.Stock) ∷ (7, Kind.Quotas) ∷ []

abbrev pub kind_of : ℕ → Option Kind
kind_of code = entry_at kinds code

-- a small letter, a digit, or one of _ - .
abbrev pub may_be_in_name : ℕ → Bool
may_be_in_name b = (nat_le 97 b && nat_le b 122) ||
    ((nat_le 48 b && nat_le b 57) || (b == 95 || (b == 45 || b == 46)))

abbrev pub is_good_name : List ℕ → Bool
is_good_name name = nat_lt 0 (length name) &&
    (nat_le (length name) max_name && list_all may_be_in_name name)

unfoldable pub name_in : Reader (List ℕ)
name_in bytes = do
  len ← byte_in bytes
  if nat_lt (length len.1) len.0 then None else if is_good_name (take len.0 len.1) then Some
      (take len.0 len.1, drop len.0 len.1) else None

unfoldable pub named_in : List ℕ → Option (Kind × List ℕ × List ℕ)
named_in bytes = do
  code ← byte_in bytes
  kind ← kind_of code.0
  name ← name_in code.1
  Some (kind, name.0, name.1)

-- ---- calls, replies and inverses

abbrev pub keyed_calls : List (ℕ × (ℕ → Call))
keyed_calls = (1, Call.Contains) ∷ (2, Call.SetAdd) ∷ (3, Call.SetRemove) ∷ (4, Call.Get) ∷
    (6, Call.MapRemove) ∷ (7, Call.Ceiling) ∷ (15, Call.Release) ∷ (16, Call.Free) ∷
    (17, Call.Spend) ∷ (19, Call.Fill) ∷ (22, Call.QuotaLevel) ∷ []

unfoldable pub keyed_call_behind : ℕ → Reader Call
keyed_call_behind code = numbered keyed_calls code

abbrev pub other_calls : List (ℕ × Reader Call)
other_calls =
    (5, made (λ e. Call.Put e.0 e.1) entry_in)
    ∷ (8, made (λ p. Call.QueueAdd p.0 p.1) pair_in)
    ∷ (9, plain Call.Take)
    ∷ (10, plain Call.Least)
    ∷ (11, made (λ p. Call.Pluck p.0 p.1) pair_in)
    ∷ (12, made (λ n. Call.Bump (cast_signed w64 n)) (number_in 8))
    ∷ (13, plain Call.Read)
    ∷ (14, plain Call.Draw)
    ∷ (18, plain Call.Level)
    ∷ (20, plain Call.Pick)
    ∷ (21, made (λ p. Call.QuotaSpend p.0 p.1) pair_in)
    ∷ (23, made (λ p. Call.QuotaFill p.0 p.1) pair_in)
    ∷ (24, made (λ p. Call.Refund p.0 p.1) pair_in)
    ∷ []

-- a call behind its code
unfoldable pub call_behind : ℕ → Reader Call
call_behind code = read_at other_calls keyed_call_behind code

unfoldable pub call_in : Reader Call
call_in bytes = byte_in bytes >>= λ code. call_behind code.0 code.1

abbrev pub replies : List (ℕ × Reader Reply)
replies =
    (0, plain Reply.Done)
    ∷ (1, plain Reply.No)
    ∷ (2, plain Reply.Yes)
    ∷ (3, plain Reply.Nothing)
    ∷ (4, made Reply.Value value_in)
    ∷ (5, made (λ e. Reply.Entry e.0 e.1) entry_in)
    ∷ (6, made (λ p. Reply.Item p.0 p.1) pair_in)
    ∷ (7, made (λ n. Reply.Total (cast_signed w128 n)) (number_in 16))
    ∷ (8, made Reply.Id (number_in 8))
    ∷ (9, plain Reply.Queued)
    ∷ (10, plain Reply.Absent)
    ∷ []

-- a reply behind its code
unfoldable pub reply_behind : ℕ → Reader Reply
reply_behind code = read_at replies nothing code

unfoldable pub reply_in : Reader Reply
reply_in bytes = byte_in bytes >>= λ code. reply_behind code.0 code.1

-- the inverse behind its code, or behind the code of no inverse
unfoldable pub inverse_in : Reader (Option Call)
inverse_in bytes = byte_in bytes >>= λ code. if code.0 == 0 then Some (None, code.1) else made Some
    (call_behind code.0) code.1

-- ---- records

unfoldable pub called_in : Reader CallRecord
called_in bytes = do
  number ← number_in 8 bytes
  collection ← byte_in number.1
  call ← call_in collection.1
  reply ← reply_in call.1
  inverse ← inverse_in reply.1
  Some (
    record {
      number = number.0;
      collection = collection.0;
      call = call.0;
      reply = reply.0;
      inverse = inverse.0;
    },
    inverse.1,
  )

unfoldable pub deferred_in : Reader LaterRecord
deferred_in bytes = do
  number ← number_in 8 bytes
  collection ← byte_in number.1
  call ← call_in collection.1
  Some (record { number = number.0; collection = collection.0; call = call.0 }, call.1)

unfoldable pub item_in : Option Kind → Reader Item
item_in None bytes = None
item_in (Some Kind.Set) bytes = made Item.Element (number_in 8) bytes
item_in (Some Kind.Map) bytes = made (λ e. Item.Entry e.0 e.1) entry_in bytes
item_in (Some Kind.Queue) bytes = made (λ p. Item.Pair p.0 p.1) pair_in bytes
item_in (Some Kind.Counter) bytes =
    made (λ n. Item.Number (cast_signed w128 n)) (number_in 16) bytes
item_in (Some Kind.Pool) bytes = made Item.Element (number_in 8) bytes
item_in (Some Kind.Stock) bytes = made Item.Number amount_in bytes
item_in (Some Kind.Quotas) bytes = made (λ p. Item.Amount p.0 p.1) quota_in bytes

abbrev pub made_named : (Kind → List ℕ → Record) → Reader Record
made_named make bytes = named_in bytes >>= λ m. Some (make m.0 m.1, m.2)

abbrev pub numbered_records : List (ℕ × (ℕ → Record))
numbered_records = (4, Record.Commit) ∷ (5, Record.Back) ∷ (6, Record.Ended) ∷ (13, Record.Begin) ∷
    []

unfoldable pub numbered_behind : ℕ → Reader Record
numbered_behind tag = numbered numbered_records tag

abbrev pub journal_records : List (ℕ × Reader Record)
journal_records = (1, made_named Record.Make) ∷ (2, made Record.Call called_in) ∷
    (3, made Record.Later deferred_in) ∷ []

unfoldable pub journal_behind : ℕ → Reader Record
journal_behind tag = read_at journal_records numbered_behind tag

abbrev pub image_records : Option Kind → List (ℕ × Reader Record)
image_records last =
    (7, made_named Record.Name)
    ∷ (8, made Record.Item (item_in last))
    ∷ (9, made Record.LiveCall called_in)
    ∷ (10, made Record.LiveLater deferred_in)
    ∷ (11, made (λ p. Record.Marks Format.One p.0 p.1) pair_in)
    ∷ (12, plain Record.ImageEnd)
    ∷ (14, made (λ p. Record.Marks Format.Two p.0 p.1) pair_in)
    ∷ []

-- a record behind its tag, where the kind was named last
unfoldable pub record_behind : Option Kind → ℕ → Reader Record
record_behind last tag = read_at (image_records last) journal_behind tag

unfoldable pub record_in : Option Kind → Reader Record
record_in last bytes = byte_in bytes >>= λ tag. record_behind last tag.0 tag.1
