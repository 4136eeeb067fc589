use Rattle.std.proofs.Common.{◌≡◌, ◌<◌, length, IsPermutation}
use Rattle.collections.specs.Holders.{RisesAt, IsLiveAt}
use Rattle.collections.proofs.heap.rise.Given as goal

abbrev pub invariant-loop-at : goal.invariant-loop-at
invariant-loop-at l = record {
  within : l.at < length l.holders;
  long : length l.holders ≡ length l.initial.holders;
  same : IsPermutation l.initial.holders l.holders;
  rises : RisesAt l.holders l.at;
  live : IsLiveAt l.holders l.at;
  root : IsLiveAt l.initial.holders 0 → 0 < l.at → IsLiveAt l.holders 0;
}

abbrev pub decreases-loop-at : goal.decreases-loop-at
decreases-loop-at l = l.at
