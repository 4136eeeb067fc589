-- The live transactions, which of them are falling, and what they asked for.
use Rattle.std.specs.Prelude.{◌≡◌, ℕ, ◌<◌, ◌≤◌, Bool, true, IsTrue, Option, Some, None, List, []}
use Rattle.std.specs.Prelude.{◌∷◌, ◌-◌, ◌^◌, Contains, nat_lt, if◌then◌else◌, vec_len, vec_capacity}
use Rattle.std.specs.Ordering.{nat_cmp}
use Rattle.std.specs.FinMap as maps
use Rattle.slab.specs.Slab.{Slab, get}
use Rattle.calls.specs.Transactions.{Entry}
use Rattle.undo_log.specs.declared.live.Transaction.{Transaction}

-- At the number of each live transaction, whether it is falling.
abbrev pub Statuses : Type 0
Statuses = maps.FinMap nat_cmp Bool

-- The live transactions; all that they asked for and did not undo, each with the number of its
-- transaction, in the order asked; and the numbers of the transactions that have room for one entry
-- more.
pub record Log : Type 0 where
  pub live : Statuses
  pub entries : List (ℕ × Entry)
  pub rooms : List ℕ

-- The transaction is live.
abbrev pub Lives : Statuses → ℕ → Type 0
Lives live n = IsTrue (maps.contains_key live n)

-- It is the least number that is live.
pub record IsLeastLive (live : Statuses) (n : ℕ) : Type 0 where
  pub lives : Lives live n
  pub least : (m : ℕ) → Lives live m → n ≤ m

-- It is the least number above another that is live.
pub record IsNextLive (live : Statuses) (after n : ℕ) : Type 0 where
  pub lives : Lives live n
  pub above : after < n
  pub least : (m : ℕ) → Lives live m → after < m → n ≤ m

abbrev pub IsLive : Log → ℕ → Type 0
IsLive log n = Lives log.live n

-- The live transaction is falling.
abbrev pub Falls : Statuses → ℕ → Type 0
Falls live n = maps.get live n ≡ Some true

abbrev pub IsFalling : Log → ℕ → Type 0
IsFalling log n = Falls log.live n

-- There is room for one more entry of the transaction.
abbrev pub HasRoom : Log → ℕ → Type 0
HasRoom log n = Contains log.rooms n

-- A transaction that is still live keeps its room.
abbrev pub KeepsRoom : (old new : Log) → Type 0
KeepsRoom old new = (n : ℕ) → IsLive new n → HasRoom old n → HasRoom new n

-- The same transactions are live, and this one is falling if it is one of them.
abbrev pub fallen : Statuses → ℕ → Statuses
fallen live n = if maps.contains_key live n then maps.insert live n true else live

-- The numbers of the transactions in the slots, each with whether it is falling.
abbrev pub statuses : List (Option Transaction) → List (ℕ × Bool)
statuses [] = []
statuses (None ∷ rest) = statuses rest
statuses (Some t ∷ rest) = (t.number, t.falling) ∷ statuses rest

-- The live transactions in the slots.
unfoldable pub live_of : List (Option Transaction) → Statuses
live_of slots = maps.from_entries (statuses slots)

-- The numbers of the transactions in the slots that have room for one entry more.
abbrev pub roomy : List (Option Transaction) → List ℕ
roomy [] = []
roomy (None ∷ rest) = roomy rest
roomy (Some t ∷ rest) =
    if nat_lt (vec_len t.entries) (vec_capacity t.entries)
    then t.number ∷ roomy rest
    else roomy rest

-- The same as long as there is a stamp for it, and else none.
unfoldable pub rooms_of : (next : ℕ) → List (Option Transaction) → List ℕ
rooms_of next slots = if nat_lt next (2 ^ 64 - 1) then roomy slots else []

-- No two slots have one number.
abbrev pub EachOnce : Slab Transaction → Type 0
EachOnce slots = (i j : ℕ) (t u : Transaction) → get slots i ≡ Some t → get slots j ≡ Some u →
    t.number ≡ u.number → i ≡ j

-- The slot has the number.
abbrev pub IsSlotOf : Slab Transaction → ℕ → ℕ → Type 0
IsSlotOf slots n key = (t : Transaction) × (get slots key ≡ Some t) × (t.number ≡ n)

-- It is the least number in the slots.
pub record IsLeastSlot (slots : Slab Transaction) (n : ℕ) : Type 0 where
  pub key : ℕ
  pub there : IsSlotOf slots n key
  pub least : (key : ℕ) (t : Transaction) → get slots key ≡ Some t → n ≤ t.number

-- It is the least number above another in the slots.
pub record IsNextSlot (slots : Slab Transaction) (after n : ℕ) : Type 0 where
  pub key : ℕ
  pub there : IsSlotOf slots n key
  pub above : after < n
  pub least : (key : ℕ) (t : Transaction) → get slots key ≡ Some t → after < t.number → n ≤ t.number
