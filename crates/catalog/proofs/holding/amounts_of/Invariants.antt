use Rattle.std.proofs.Common.{◌≡◌, ◌+◌, ◌<◌, ◌^◌, map}
use Rattle.std.specs.List.{AllByRecursion}
use Rattle.std.specs.Map.Iter.{deref_pair}
use Rattle.catalog.proofs.Listings.{quota_item}
use Rattle.catalog.proofs.holding.amounts_of.Given as goal

abbrev pub invariant-loop-key : goal.invariant-loop-key
invariant-loop-key l = record {
  so_far : l.items.items ≡ map quota_item (map deref_pair l.yielded);
  below : AllByRecursion (λ e. e.1 + 1 < 2 ^ 127) l.key-iterator;
}
