use Rattle.std.proofs.Common.{◌≡◌, ◌<◌, length}
use Rattle.std.specs.List.{AllWithin}
use Rattle.abstract_locks.specs.Owners.{AreKept}
use Rattle.abstract_locks.proofs.owners.reserve_each.Given as goal

abbrev pub invariant-loop-list : goal.invariant-loop-list
invariant-loop-list l = record {
  kept : AreKept l.initial.lists l.lists;
  len : length l.lists ≡ length l.initial.lists;
  room : AllWithin (λ list. 0 < list.room) l.lists 0 l.list-index;
}
