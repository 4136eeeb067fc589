use Rattle.std.proofs.Common.{length}
use Rattle.images.specs.Gathers.{CanCatchUp, HaveRepeated}
use Rattle.images.specs.Views.{copies_of}
use Rattle.images.proofs.gather.repeat_all.Given as goal

abbrev pub invariant-loop-effect : goal.invariant-loop-effect
invariant-loop-effect g l =
    HaveRepeated (copies_of g.P.Part.collection l.initial.copies) l.initial.effects.items
    (copies_of g.P.Part.collection l.copies) l.effects.items ×
    CanCatchUp (copies_of g.P.Part.collection l.copies) l.effects.items

abbrev pub decreases-loop-effect : goal.decreases-loop-effect
decreases-loop-effect g l = length l.effects.items
