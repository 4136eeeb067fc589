-- The entries of all live transactions by their stamps.
use Rattle.std.specs.Prelude.{◌≡◌, ℕ, ◌<◌, ◌≤◌, ◌==◌, Option, Some, None, List, [], ◌∷◌, ◌++◌}
use Rattle.std.specs.Prelude.{map, length}
use Rattle.std.specs.List.{filter, AllByRecursion}
use Rattle.std.specs.Ordering.{nat_cmp}
use Rattle.std.specs.FinMap as maps
use Rattle.slab.specs.Slab.{Slab, get}
use Rattle.calls.specs.Transactions.{Entry}
use Rattle.undo_log.specs.declared.live.Transaction.{Transaction}
use Rattle.undo_log.specs.declared.logged.Owned.{Owned}
use Rattle.undo_log.specs.Entries.{stamped_entry, owned_entry}

-- A stamp, and with it the number of a transaction and what it asked for.
abbrev pub Mark : Type 0
Mark = ℕ × (ℕ × Entry)

-- What the transaction asked for.
abbrev pub marks : Transaction → List Mark
marks t = map (λ s. (s.stamp, (t.number, stamped_entry s))) t.entries.items

-- The same of one that is listed.
abbrev pub mark_of : Owned → Mark
mark_of o = (o.stamp, owned_entry o)

-- What the transactions in the slots asked for, one transaction after another,
abbrev pub all_marks : List (Option Transaction) → List Mark
all_marks [] = []
all_marks (None ∷ rest) = all_marks rest
all_marks (Some t ∷ rest) = marks t ++ all_marks rest

-- and by rising stamps.
unfoldable pub merged : List (Option Transaction) → List Mark
merged slots = maps.entries (maps.from_entries {R = nat_cmp} (all_marks slots))

-- The marks of the number.
abbrev pub marks_of : ℕ → List Mark → List Mark
marks_of n ms = filter (λ m. m.1.0 == n) ms

-- Among all merged marks those of a slot's number are what its transaction asked for: so stamps
-- rise in each slot, and no two are alike. There are so many marks, and the next stamp is above
-- them.
pub record AreStamped (slots : Slab Transaction) (next count : ℕ) : Type 0 where
  pub each : (key : ℕ) (t : Transaction) → get slots key ≡ Some t →
      marks_of t.number (merged slots.slots) ≡ marks t
  pub below : AllByRecursion (λ m. m.0 < next) (merged slots.slots)
  pub counted : count ≡ length (merged slots.slots)
  pub few : count ≤ next
