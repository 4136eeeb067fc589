use Rattle.std.proofs.Common.{length}
use Rattle.checkpoint.specs.Imaging.{left_of}
use Rattle.recovery.proofs.CopyLemmas.{LaidOn}
use Rattle.recovery.proofs.copying.lay_all.Given as goal

abbrev pub invariant-loop-laying : goal.invariant-loop-laying
invariant-loop-laying g l =
    LaidOn g.D.Disk.seen g.D.Disk.may_leave g.D.Disk.moment g.D.Disk.left_since
    g.D.Disk.fault_count l.initial.laying l.laying l.initial.disk l.disk

abbrev pub decreases-loop-laying : goal.decreases-loop-laying
decreases-loop-laying g l = length (left_of l.laying)
