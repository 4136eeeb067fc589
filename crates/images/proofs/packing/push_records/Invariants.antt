use Rattle.records.specs.Packings.{joined}
use Rattle.images.proofs.ImageRecords.{AreWritten}
use Rattle.images.proofs.packing.push_records.Given as goal

abbrev pub invariant-loop-entry : goal.invariant-loop-entry
invariant-loop-entry l =
    AreWritten (joined l.initial.packer) (joined l.packer) l.records l.entry-index
