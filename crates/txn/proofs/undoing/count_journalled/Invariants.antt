use Rattle.std.proofs.Common.{◌≡◌, ◌-◌, ◌^◌}
use Rattle.txn.proofs.UndoCounts.{told_upto}
use Rattle.txn.proofs.undoing.count_journalled.Given as goal

abbrev pub invariant-loop-number : goal.invariant-loop-number
invariant-loop-number l = l.count ≡ told_upto l.last l.live.entries

abbrev pub decreases-loop-number : goal.decreases-loop-number
decreases-loop-number l = 2 ^ 61 - l.last
