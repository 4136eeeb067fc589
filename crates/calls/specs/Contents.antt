-- What a collection holds, and what a list of named collections holds.
use Rattle.std.specs.Prelude.{◌≡◌, ℕ, zero, suc, ℤ, pos, ◌<ℤ◌, List, [], ◌∷◌, map, replicate, codes}
use Rattle.std.specs.List.{flat_map}
use Rattle.std.specs.FinMap as maps_of
use Rattle.std.specs.FinSet as sets_of
use Rattle.calls.specs.declared.kind.Kind.{Kind}
use Rattle.calls.specs.declared.item.Item.{Item}
use Rattle.calls.specs.declared.call.Call.{Call}
use Rattle.calls.specs.declared.reply.Reply.{Reply}
use Rattle.calls.specs.Sets as sets
use Rattle.calls.specs.Maps as maps
use Rattle.calls.specs.Bags as bags
use Rattle.calls.specs.Queues as queues
use Rattle.calls.specs.Counters as counters
use Rattle.calls.specs.Pools as pools
use Rattle.calls.specs.Stocks as stocks
use Rattle.calls.specs.Quotas as quotas

pub data Content : Type 0 where
  InSet : sets.NumberSet → Content
  InMap : maps.Table → Content
  InQueue : bags.Bag → Content
  InCounter : ℤ → Content
  InPool : sets.NumberSet → Content
  InStock : ℕ → Content
  InQuotas : quotas.Quotas → Content

-- The items of a collection, in their order: a queue's by priority and then tag, each as often as
-- it is there.
abbrev pub items_of : Content → List Item
items_of (InSet s) = map Item.Element (sets_of.items s)
items_of (InMap m) = map (λ e. Item.Entry e.0 e.1) (maps_of.entries m)
items_of (InQueue q) = flat_map (λ e. replicate (suc e.1) (Item.Pair e.0.0 e.0.1))
    (maps_of.entries q)
items_of (InCounter n) = Item.Number n ∷ []
items_of (InPool s) = map Item.Element (sets_of.items s)
items_of (InStock n) = Item.Number (pos n) ∷ []
items_of (InQuotas q) = map (λ e. Item.Amount e.0 (pos (suc e.1))) (maps_of.entries q)

-- The kind of a content.
abbrev pub kind_of_content : Content → Kind
kind_of_content (InSet s) = Kind.Set
kind_of_content (InMap m) = Kind.Map
kind_of_content (InQueue q) = Kind.Queue
kind_of_content (InCounter n) = Kind.Counter
kind_of_content (InPool s) = Kind.Pool
kind_of_content (InStock n) = Kind.Stock
kind_of_content (InQuotas q) = Kind.Quotas

-- The name of a kind in scripts, and in what the program prints.
abbrev pub kind_text : Kind → List ℕ
kind_text Kind.Set = codes "set"
kind_text Kind.Map = codes "map"
kind_text Kind.Queue = codes "queue"
kind_text Kind.Counter = codes "counter"
kind_text Kind.Pool = codes "pool"
kind_text Kind.Stock = codes "stock"
kind_text Kind.Quotas = codes "quotas"

-- An amount that a key of quotas has: where it is nothing, the key is not there.
abbrev pub IsPositive : ℤ → Type 0
IsPositive n = pos 0 <ℤ n

-- The item is one of a collection of the kind.
abbrev pub IsItemOf : Kind → Item → Type 0
IsItemOf Kind.Set (Item.Element x) = Unit {0}
IsItemOf Kind.Map (Item.Entry k v) = Unit {0}
IsItemOf Kind.Queue (Item.Pair p g) = Unit {0}
IsItemOf Kind.Counter (Item.Number n) = Unit {0}
IsItemOf Kind.Pool (Item.Element x) = Unit {0}
IsItemOf Kind.Stock (Item.Number (pos n)) = Unit {0}
IsItemOf Kind.Quotas (Item.Amount k n) = IsPositive n
IsItemOf kind i = ⊥

-- what a collection holds when it is made
abbrev pub empty : Kind → Content
empty Kind.Set = InSet sets_of.empty
empty Kind.Map = InMap maps_of.empty
empty Kind.Queue = InQueue maps_of.empty
empty Kind.Counter = InCounter (pos 0)
empty Kind.Pool = InPool sets_of.empty
empty Kind.Stock = InStock 0
empty Kind.Quotas = InQuotas maps_of.empty

abbrev pub Answers : Content → Call → Reply → Type 0
Answers (InSet s) c r = sets.Answers s c r
Answers (InMap m) c r = maps.Answers m c r
Answers (InQueue q) c r = queues.Answers q c r
Answers (InCounter n) c r = counters.Answers n c r
Answers (InPool s) c r = pools.Answers s c r
Answers (InStock n) c r = stocks.Answers n c r
Answers (InQuotas q) c r = quotas.Answers q c r

abbrev pub after : Content → Call → Reply → Content
after (InSet s) c r = InSet (sets.after s c r)
after (InMap m) c r = InMap (maps.after m c r)
after (InQueue q) c r = InQueue (queues.after q c r)
after (InCounter n) c r = InCounter (counters.after n c r)
after (InPool s) c r = InPool (pools.after s c r)
after (InStock n) c r = InStock (stocks.after n c r)
after (InQuotas q) c r = InQuotas (quotas.after q c r)

pub record Collection : Type 0 where
  pub name : List ℕ
  pub content : Content

-- The call goes to the collection at the place, and only that one changes.
abbrev pub AnswersAt : List Collection → ℕ → Call → Reply → Type 0
AnswersAt [] at c r = ⊥
AnswersAt (x ∷ xs) zero c r = Answers x.content c r
AnswersAt (x ∷ xs) (suc at) c r = AnswersAt xs at c r

abbrev pub after_at : List Collection → ℕ → Call → Reply → List Collection
after_at [] at c r = []
after_at (x ∷ xs) zero c r = record { name = x.name; content = after x.content c r } ∷ xs
after_at (x ∷ xs) (suc at) c r = x ∷ after_at xs at c r

abbrev pub does : List Collection → ℕ → Call → Reply → List Collection → Type 0
does s at c r t = AnswersAt s at c r × (t ≡ after_at s at c r)
