use Rattle.records.specs.Packings.{joined}
use Rattle.images.proofs.ImageRecords.{AreTold}
use Rattle.recovery.proofs.freezing.push_collections.Given as goal

abbrev pub invariant-loop-at : goal.invariant-loop-at
invariant-loop-at g l = AreTold (joined l.initial.packer) (joined l.packer)
    (g.B.Parts.collections l.parts) l.at
