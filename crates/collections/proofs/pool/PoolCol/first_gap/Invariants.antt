use Rattle.std.proofs.Common.{◌≡◌, ℕ, ◌+◌, ◌<◌, ◌≤◌, ◌^◌, length}
use Rattle.std.specs.FinSet as set
use Rattle.collections.proofs.Rising.{RisesFrom, is_among}
use Rattle.collections.proofs.pool.PoolCol.first_gap.Given as goal

abbrev pub invariant-loop-x : goal.invariant-loop-x
invariant-loop-x l = record {
  rises : RisesFrom l.gap l.x-iterator;
  members : (q : ℕ) → l.gap ≤ q → set.contains l.self q ≡ is_among l.x-iterator q;
  room : l.gap + length l.x-iterator < 2 ^ 63;
}
