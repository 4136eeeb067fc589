use Rattle.std.proofs.Common.{◌≡◌, ◌-◌, length, IsPermutation}
use Rattle.collections.specs.Holders.{SinksAt}
use Rattle.collections.proofs.heap.sink.Given as goal

abbrev pub invariant-loop-at : goal.invariant-loop-at
invariant-loop-at l = record {
  long : length l.holders ≡ length l.initial.holders;
  same : IsPermutation l.initial.holders l.holders;
  sinks : SinksAt l.holders l.at;
}

abbrev pub decreases-loop-at : goal.decreases-loop-at
decreases-loop-at l = length l.holders - l.at
