use Rattle.std.proofs.Common.{◌-◌, ◌^◌}
use Rattle.images.proofs.ImageRecords.{HaveBegun}
use Rattle.images.proofs.telling.tell_begins.Given as goal

abbrev pub invariant-loop-number : goal.invariant-loop-number
invariant-loop-number l = HaveBegun l.initial.told.items l.told.items l.live.live l.last

abbrev pub decreases-loop-number : goal.decreases-loop-number
decreases-loop-number l = 2 ^ 61 - l.last
