use Rattle.std.proofs.Common.{◌-◌}
use Rattle.gate_block.specs.Area.{offset_of}
use Rattle.recovery.proofs.LoadLemmas.{IsLoading}
use Rattle.recovery.proofs.loading.load.Given as goal

abbrev pub invariant-loop-body : goal.invariant-loop-body
invariant-loop-body g l =
    IsLoading g.D.Disk.seen g.D.Disk.may_leave g.D.Disk.moment g.D.Disk.left_since
    g.D.Disk.is_honest g.D.Disk.fault_count
    l.fn.disk l.disk l.fn.version l.fn.base l.fn.size l.area l.repetition.kind l.repetition.stage
    l.repetition.next l.place l.image

abbrev pub decreases-loop-body : goal.decreases-loop-body
decreases-loop-body g l = l.fn.size - offset_of l.area
