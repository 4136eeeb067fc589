use Rattle.std.proofs.Common.{take}
use Rattle.std.specs.List.{AllByRecursion}
use Rattle.calls.specs.Names.{IsName}
use Rattle.catalog.specs.Making.{AreDistinct}
use Rattle.catalog.specs.Woven.{names_in}
use Rattle.recovery.specs.Kept.{kept_names, Keeps}
use Rattle.recovery.proofs.editing.keep.Given as goal

abbrev pub invariant-loop-edit : goal.invariant-loop-edit
invariant-loop-edit l = Keeps (take l.edit-index l.edits) (names_in l.names) l.kept.items ×
    AllByRecursion IsName (kept_names l.kept.items) × AreDistinct (kept_names l.kept.items)
