use Rattle.records.specs.Packings.{joined}
use Rattle.images.specs.Gathers.{gathered}
use Rattle.images.specs.Views.{copies_of}
use Rattle.images.proofs.ImageRecords.{AreTold}
use Rattle.images.proofs.packing.push_copies.Given as goal

abbrev pub invariant-loop-stamped : goal.invariant-loop-stamped
invariant-loop-stamped g l = AreTold (joined l.initial.packer) (joined l.packer)
    (gathered (copies_of g.P.Part.collection l.copies)) l.stamped-index
