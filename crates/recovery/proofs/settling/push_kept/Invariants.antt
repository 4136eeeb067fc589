use Rattle.std.proofs.Common.{List}
use Rattle.calls.specs.Contents.{Collection}
use Rattle.records.specs.Packings.{joined}
use Rattle.images.proofs.ImageRecords.{AreTold}
use Rattle.recovery.specs.Kept.{AreKept}
use Rattle.recovery.proofs.settling.push_kept.Given as goal

abbrev pub invariant-loop-one : goal.invariant-loop-one
invariant-loop-one l = (xs : List Collection) → AreKept l.collections l.kept xs →
    AreTold (joined l.initial.packer) (joined l.packer) xs l.one-index
