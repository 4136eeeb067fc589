-- What so many runs can reach, item by item.
use Rattle.std.specs.Prelude.{ℕ}
use Rattle.calls.specs.declared.item.Item.{Item}
use Rattle.calls.specs.Counters as counters

-- n runs can reach the item: only the number of a counter or of a stock, and the amount of a quota,
-- have a bound.
abbrev pub IsReached : ℕ → Item → Type 0
IsReached n (Item.Number v) = counters.IsWithin v n
IsReached n (Item.Amount k v) = counters.IsWithin v n
IsReached n i = Unit {0}
