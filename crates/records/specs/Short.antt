-- Values that are no longer than a format has them: in replies, in items, in what collections hold,
-- and in records.
use Rattle.std.specs.Prelude.{◌≡◌, ℕ, ◌≤◌, List, length, Some, IfSome}
use Rattle.std.specs.List.{AllByRecursion}
use Rattle.std.specs.FinMap.{get}
use Rattle.calls.specs.declared.reply.Reply.{Reply}
use Rattle.calls.specs.declared.format.Format.{Format}
use Rattle.calls.specs.Formats.{max_value}
use Rattle.calls.specs.Rules.{IsShort}
use Rattle.calls.specs.declared.item.Item.{Item}
use Rattle.calls.specs.Contents.{Content, InMap, Collection}
use Rattle.records.specs.declared.record.Record.{Record}
use Rattle.records.specs.declared.record.CallRecord.{CallRecord}

-- No value in the reply is longer than the format has it.
abbrev pub IsShortReply : Format → Reply → Type 0
IsShortReply f (Reply.Value v) = length v ≤ max_value f
IsShortReply f (Reply.Entry k v) = length v ≤ max_value f
IsShortReply f r = Unit {0}

-- Nor is one in the item,
abbrev pub IsShortItem : Format → Item → Type 0
IsShortItem f (Item.Entry k v) = length v ≤ max_value f
IsShortItem f i = Unit {0}

-- in the content,
abbrev pub HoldsShort : Format → Content → Type 0
HoldsShort f (InMap m) = (k : ℕ) (v : List ℕ) → get m k ≡ Some v → length v ≤ max_value f
HoldsShort f s = Unit {0}

-- or in any of the collections.
abbrev pub AreShort : Format → List Collection → Type 0
AreShort f s = AllByRecursion (λ x. HoldsShort f x.content) s

-- ---- records

-- no value of a call's record is longer
pub record IsShortCalled (f : Format) (c : CallRecord) : Type 0 where
  pub call : IsShort f c.call
  pub reply : IsShortReply f c.reply
  pub inverse : IfSome c.inverse (IsShort f)

-- The record may stand in an area of the format: no value is longer than that has it, and the marks
-- of an image are those of the format.
abbrev pub IsOf : Format → Record → Type 0
IsOf f (Record.Call c) = IsShortCalled f c
IsOf f (Record.Later l) = IsShort f l.call
IsOf f (Record.LiveCall c) = IsShortCalled f c
IsOf f (Record.LiveLater l) = IsShort f l.call
IsOf f (Record.Item i) = IsShortItem f i
IsOf f (Record.Marks format next wear) = format ≡ f
IsOf f r = Unit {0}
