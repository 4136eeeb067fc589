-- The one spelling of each record: a tag, and behind it the fields. In a number the highest byte
-- comes first.
use Rattle.std.specs.Prelude.{MatchOption, ◌≡◌, ℕ, ◌+◌, ◌*◌, ◌<◌, ◌≤◌, ◌^◌, ℤ, List, [], ◌∷◌, ◌++◌}
use Rattle.std.specs.Prelude.{length}
use Rattle.std.specs.Prelude.{All, Option, Some, None, IfSome}
use Rattle.std.specs.List.{flat_map}
use Rattle.std.specs.Int.{w64, w128, bytes_high_first, cast_unsigned}
use Rattle.std.specs.Int.RustNames.{FitsSigned}
use Rattle.calls.specs.declared.kind.Kind.{Kind}
use Rattle.calls.specs.declared.call.Call.{Call}
use Rattle.calls.specs.declared.reply.Reply.{Reply}
use Rattle.calls.specs.declared.refusal.Refusal.{Refusal}
use Rattle.calls.specs.Contents.{IsItemOf}
use Rattle.calls.specs.Names.{IsName}
use Rattle.calls.specs.declared.format.Format.{Format}
use Rattle.calls.specs.Formats.{max_value, widest}
use Rattle.calls.specs.Rules.{inverse_of, Askable, Deferrable, Pairs}
use Rattle.records.specs.declared.record.Record.{Record}
use Rattle.records.specs.declared.record.CallRecord.{CallRecord}
use Rattle.records.specs.declared.record.LaterRecord.{LaterRecord}
use Rattle.calls.specs.declared.item.Item.{Item}
use Rattle.calls.specs.Limits.{max_collections, number_end}

-- ---- the fields

-- a number in so many bytes
unfoldable pub number : ℕ → ℕ → List ℕ
number len n = bytes_high_first len n

-- a signed number in 8 bytes, and in 16: its two's complement
abbrev pub signed : ℤ → List ℕ
signed n = number 8 (cast_unsigned w64 n)

abbrev pub wide : ℤ → List ℕ
wide n = number 16 (cast_unsigned w128 n)

-- a value of a map: its length, and its bytes
abbrev pub value : List ℕ → List ℕ
value v = number 2 (length v) ++ v

abbrev pub kind_code : Kind → ℕ
kind_code Kind.Set = 1
kind_code Kind.Map = 2
kind_code Kind.Queue = 3
kind_code Kind.Counter = 4
kind_code Kind.Pool = 5
kind_code Kind.Stock = 6
kind_code Kind.Quotas = 7

-- a kind and a name: the kind's code, the name's length, and its bytes
abbrev pub named : Kind → List ℕ → List ℕ
named kind name = kind_code kind ∷ length name ∷ name

abbrev pub call : Call → List ℕ
call (Call.Contains x) = 1 ∷ number 8 x
call (Call.SetAdd x) = 2 ∷ number 8 x
call (Call.SetRemove x) = 3 ∷ number 8 x
call (Call.Get k) = 4 ∷ number 8 k
call (Call.Put k v) = 5 ∷ number 8 k ++ value v
call (Call.MapRemove k) = 6 ∷ number 8 k
call (Call.Ceiling k) = 7 ∷ number 8 k
call (Call.QueueAdd p g) = 8 ∷ number 8 p ++ number 8 g
call Call.Take = 9 ∷ []
call Call.Least = 10 ∷ []
call (Call.Pluck p g) = 11 ∷ number 8 p ++ number 8 g
call (Call.Bump n) = 12 ∷ signed n
call Call.Read = 13 ∷ []
call Call.Draw = 14 ∷ []
call (Call.Release x) = 15 ∷ number 8 x
call (Call.Free x) = 16 ∷ number 8 x
call (Call.Spend n) = 17 ∷ number 8 n
call Call.Level = 18 ∷ []
call (Call.Fill n) = 19 ∷ number 8 n
call Call.Pick = 20 ∷ []
call (Call.QuotaSpend k n) = 21 ∷ number 8 k ++ number 8 n
call (Call.QuotaLevel k) = 22 ∷ number 8 k
call (Call.QuotaFill k n) = 23 ∷ number 8 k ++ number 8 n
call (Call.Refund k n) = 24 ∷ number 8 k ++ number 8 n

abbrev pub reply : Reply → List ℕ
reply Reply.Done = 0 ∷ []
reply Reply.No = 1 ∷ []
reply Reply.Yes = 2 ∷ []
reply Reply.Nothing = 3 ∷ []
reply (Reply.Value v) = 4 ∷ value v
reply (Reply.Entry k v) = 5 ∷ number 8 k ++ value v
reply (Reply.Item p g) = 6 ∷ number 8 p ++ number 8 g
reply (Reply.Total n) = 7 ∷ wide n
reply (Reply.Id x) = 8 ∷ number 8 x
reply Reply.Queued = 9 ∷ []
reply Reply.Absent = 10 ∷ []

-- 0 where there is no inverse, else the call
abbrev pub inverse : Option Call → List ℕ
inverse None = 0 ∷ []
inverse (Some c) = call c

-- what stands in the record of a call before the inverse
abbrev pub before_inverse : (n at : ℕ) → Call → Reply → List ℕ
before_inverse n at c r = number 8 n ++ (at ∷ call c) ++ reply r

abbrev pub called : CallRecord → List ℕ
called c = before_inverse c.number c.collection c.call c.reply ++ inverse c.inverse

-- the record of a call, of its parts
abbrev pub call_record : (number collection : ℕ) → Call → Reply → Option Call → CallRecord
call_record n at c r back = record {
  number = n;
  collection = at;
  call = c;
  reply = r;
  inverse = back;
}

-- the record of a call, answered so, with the call that takes it back
abbrev pub record_of_call : (number collection : ℕ) → Call → Reply → Record
record_of_call n at c r = Record.Call (call_record n at c r (inverse_of c r))

abbrev pub deferred : LaterRecord → List ℕ
deferred l = number 8 l.number ++ (l.collection ∷ call l.call)

abbrev pub item : Item → List ℕ
item (Item.Element x) = number 8 x
item (Item.Entry k v) = number 8 k ++ value v
item (Item.Pair p g) = number 8 p ++ number 8 g
item (Item.Number n) = wide n
item (Item.Amount k n) = number 8 k ++ wide n

-- ---- the records

-- the tag of an image's marks, which tells the format of an area
abbrev pub marks_tag : Format → ℕ
marks_tag Format.One = 11
marks_tag Format.Two = 14

abbrev pub spelled : Record → List ℕ
spelled (Record.Make kind name) = 1 ∷ named kind name
spelled (Record.Call c) = 2 ∷ called c
spelled (Record.Later l) = 3 ∷ deferred l
spelled (Record.Commit n) = 4 ∷ number 8 n
spelled (Record.Back n) = 5 ∷ number 8 n
spelled (Record.Ended n) = 6 ∷ number 8 n
spelled (Record.Name kind name) = 7 ∷ named kind name
spelled (Record.Item i) = 8 ∷ item i
spelled (Record.LiveCall c) = 9 ∷ called c
spelled (Record.LiveLater l) = 10 ∷ deferred l
spelled (Record.Marks f next wear) = marks_tag f ∷ number 8 next ++ number 8 wear
spelled Record.ImageEnd = 12 ∷ []
spelled (Record.Begin n) = 13 ∷ number 8 n

-- A record takes at most so many bytes: a tag, a number, a collection, and a call, a reply and an
-- inverse, each with a code, a key and a value.
abbrev pub longest : ℕ
longest = 10 + 3 * (11 + max_value widest)

-- records one after another
abbrev pub spelling : List Record → List ℕ
spelling rs = flat_map spelled rs

-- ---- what has a spelling: each number fits its field, and a name is good

pub record IsValue (v : List ℕ) : Type 0 where
  pub short : length v ≤ max_value widest
  pub bytes : All (λ b. b < 256) v

abbrev pub FitsCall : Call → Type 0
FitsCall (Call.Contains x) = x < 2 ^ 64
FitsCall (Call.SetAdd x) = x < 2 ^ 64
FitsCall (Call.SetRemove x) = x < 2 ^ 64
FitsCall Call.Pick = Unit {0}
FitsCall (Call.Get k) = k < 2 ^ 64
FitsCall (Call.Put k v) = (k < 2 ^ 64) × IsValue v
FitsCall (Call.MapRemove k) = k < 2 ^ 64
FitsCall (Call.Ceiling k) = k < 2 ^ 64
FitsCall (Call.QueueAdd p g) = (p < 2 ^ 64) × (g < 2 ^ 64)
FitsCall Call.Take = Unit {0}
FitsCall Call.Least = Unit {0}
FitsCall (Call.Pluck p g) = (p < 2 ^ 64) × (g < 2 ^ 64)
FitsCall (Call.Bump n) = FitsSigned w64 n
FitsCall Call.Read = Unit {0}
FitsCall Call.Draw = Unit {0}
FitsCall (Call.Release x) = x < 2 ^ 64
FitsCall (Call.Free x) = x < 2 ^ 64
FitsCall (Call.Spend n) = n < 2 ^ 64
FitsCall Call.Level = Unit {0}
FitsCall (Call.Fill n) = n < 2 ^ 64
FitsCall (Call.QuotaSpend k n) = (k < 2 ^ 64) × (n < 2 ^ 64)
FitsCall (Call.QuotaLevel k) = k < 2 ^ 64
FitsCall (Call.QuotaFill k n) = (k < 2 ^ 64) × (n < 2 ^ 64)
FitsCall (Call.Refund k n) = (k < 2 ^ 64) × (n < 2 ^ 64)

abbrev pub FitsReply : Reply → Type 0
FitsReply Reply.Done = Unit {0}
FitsReply Reply.No = Unit {0}
FitsReply Reply.Yes = Unit {0}
FitsReply Reply.Nothing = Unit {0}
FitsReply (Reply.Value v) = IsValue v
FitsReply (Reply.Entry k v) = (k < 2 ^ 64) × IsValue v
FitsReply (Reply.Item p g) = (p < 2 ^ 64) × (g < 2 ^ 64)
FitsReply (Reply.Total n) = FitsSigned w128 n
FitsReply (Reply.Id x) = x < 2 ^ 64
FitsReply Reply.Queued = Unit {0}
FitsReply Reply.Absent = Unit {0}

abbrev pub FitsItem : Item → Type 0
FitsItem (Item.Element x) = x < 2 ^ 64
FitsItem (Item.Entry k v) = (k < 2 ^ 64) × IsValue v
FitsItem (Item.Pair p g) = (p < 2 ^ 64) × (g < 2 ^ 64)
FitsItem (Item.Number n) = FitsSigned w128 n
FitsItem (Item.Amount k n) = (k < 2 ^ 64) × FitsSigned w128 n

pub record FitsCalled (c : CallRecord) : Type 0 where
  pub number : c.number < 2 ^ 64
  pub collection : c.collection < max_collections
  pub call : FitsCall c.call
  pub reply : FitsReply c.reply
  pub inverse : IfSome c.inverse FitsCall

pub record FitsDeferred (l : LaterRecord) : Type 0 where
  pub number : l.number < 2 ^ 64
  pub collection : l.collection < max_collections
  pub call : FitsCall l.call

abbrev pub Fits : Record → Type 0
Fits (Record.Make kind name) = IsName name
Fits (Record.Call c) = FitsCalled c
Fits (Record.Later l) = FitsDeferred l
Fits (Record.Commit n) = n < 2 ^ 64
Fits (Record.Back n) = n < 2 ^ 64
Fits (Record.Ended n) = n < 2 ^ 64
Fits (Record.Name kind name) = IsName name
Fits (Record.Item i) = FitsItem i
Fits (Record.LiveCall c) = FitsCalled c
Fits (Record.LiveLater l) = FitsDeferred l
Fits (Record.Marks f next wear) = (next < 2 ^ 64) × (wear < 2 ^ 64)
Fits Record.ImageEnd = Unit {0}
Fits (Record.Begin n) = n < 2 ^ 64

-- ---- what a record may say

-- the number of a transaction
pub record IsNumber (n : ℕ) : Type 0 where
  pub positive : 1 ≤ n
  pub below : n < number_end

pub record IsCalled (c : CallRecord) : Type 0 where
  pub number : IsNumber c.number
  pub asked : Askable c.call
  pub answered : Pairs c.call c.reply
  pub undone : c.inverse ≡ inverse_of c.call c.reply

pub record IsSoundLater (l : LaterRecord) : Type 0 where
  pub number : IsNumber l.number
  pub call : Deferrable l.call

abbrev pub IsSound : Record → Type 0
IsSound (Record.Make kind name) = Unit {0}
IsSound (Record.Call c) = IsCalled c
IsSound (Record.Later l) = IsSoundLater l
IsSound (Record.Commit n) = IsNumber n
IsSound (Record.Back n) = IsNumber n
IsSound (Record.Ended n) = IsNumber n
IsSound (Record.Name kind name) = Unit {0}
IsSound (Record.Item i) = Unit {0}
IsSound (Record.LiveCall c) = IsCalled c
IsSound (Record.LiveLater l) = IsSoundLater l
IsSound (Record.Marks f next wear) = (1 ≤ next) × (next ≤ number_end)
IsSound Record.ImageEnd = Unit {0}
IsSound (Record.Begin n) = IsNumber n

-- The record may stand where the kind was named last: an item is one of that kind.
abbrev pub Suits : Option Kind → Record → Type 0
Suits last (Record.Item i) = MatchOption last ⊥ (λ kind. IsItemOf kind i)
Suits last r = Unit {0}

-- what a journal or an image may hold where the kind was named last
pub record IsRecord (last : Option Kind) (r : Record) : Type 0 where
  pub fits : Fits r
  pub suits : Suits last r
  pub sound : IsSound r

-- the kind named last behind a record
abbrev pub named_by : Option Kind → Record → Option Kind
named_by last (Record.Name kind name) = Some kind
named_by last r = last

-- Records one after another, each of them one that may stand there.
abbrev pub AreRecords : Option Kind → List Record → Type 0
AreRecords last [] = Unit {0}
AreRecords last (r ∷ rs) = IsRecord last r × AreRecords (named_by last r) rs

-- ---- what decoding answers

-- A record begins the bytes, and the rest stands behind it.
pub record Begins (last : Option Kind) (bytes : List ℕ) (r : Record) (rest : List ℕ) : Type 0 where
  pub parts : bytes ≡ spelled r ++ rest
  pub is : IsRecord last r

-- Why decoding was refused: for want of memory, or since no record begins the bytes, which is
-- damage at the place.
abbrev pub IsWhy : Option Kind → (place : ℕ) → List ℕ → Refusal → Type 0
IsWhy last place bytes Refusal.NoMemory = Unit {0}
IsWhy last place bytes (Refusal.Damaged p) =
    (p ≡ place) × ((r : Record) (rest : List ℕ) → Begins last bytes r rest → ⊥)
IsWhy last place bytes other = ⊥
