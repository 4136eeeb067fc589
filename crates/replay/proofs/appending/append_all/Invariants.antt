use Rattle.std.proofs.Common.{length, vec_capacity}
use Rattle.replay.proofs.Walks.{IsAppending}
use Rattle.replay.proofs.appending.append_all.Given as goal

abbrev pub invariant-loop-rest : goal.invariant-loop-rest
invariant-loop-rest g l =
    IsAppending g.D.Disk.seen g.D.Disk.may_leave g.D.Disk.moment g.D.Disk.left_since
    g.D.Disk.is_honest g.D.Disk.fault_count
    l.fn.records l.rest l.fn.area l.area l.fn.disk l.disk l.bytes.items (vec_capacity l.bytes)

abbrev pub decreases-loop-rest : goal.decreases-loop-rest
decreases-loop-rest g l = length l.rest
