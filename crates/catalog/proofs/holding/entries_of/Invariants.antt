use Rattle.std.proofs.Common.{◌≡◌, map}
use Rattle.std.specs.Map.Iter.{deref_pair}
use Rattle.catalog.proofs.Listings.{entry_item}
use Rattle.catalog.proofs.holding.entries_of.Given as goal

abbrev pub invariant-loop-key : goal.invariant-loop-key
invariant-loop-key l = l.items.items ≡ map entry_item (map deref_pair l.yielded)
