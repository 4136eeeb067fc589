use Rattle.std.proofs.Common.{◌≡◌, ◌*◌, ◌≤◌, length}
use Rattle.collections.specs.Holders.{bag_of, marks_of, IsHeap}
use Rattle.collections.proofs.heap.drop_marked_roots.Given as goal

abbrev pub invariant-loop-holders : goal.invariant-loop-holders
invariant-loop-holders l = record {
  order : IsHeap l.holders.items;
  marks : l.marked ≡ marks_of l.holders.items;
  fewer : l.marked * 2 ≤ length l.holders.items;
  bag : bag_of l.holders.items ≡ bag_of l.initial.holders.items;
}

abbrev pub decreases-loop-holders : goal.decreases-loop-holders
decreases-loop-holders l = length l.holders.items
