use Rattle.std.proofs.Common.{length}
use Rattle.records.proofs.Packed.{AreMade}
use Rattle.records.proofs.packing.Packer.finish.Given as goal

abbrev pub invariant-loop-draft : goal.invariant-loop-draft
invariant-loop-draft l = AreMade l.initial.full.items l.made.items l.full.items

abbrev pub decreases-loop-draft : goal.decreases-loop-draft
decreases-loop-draft l = length l.full.items
