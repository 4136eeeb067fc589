use Rattle.std.specs.List.{AllByRecursion}
use Rattle.calls.specs.Names.{IsName}
use Rattle.recovery.specs.Kept.{kept_names}
use Rattle.recovery.proofs.EditLemmas.{KeepsFirst}
use Rattle.recovery.proofs.editing.all_of.Given as goal

abbrev pub invariant-loop-at : goal.invariant-loop-at
invariant-loop-at l = KeepsFirst l.names l.kept.items l.at ×
    AllByRecursion IsName (kept_names l.kept.items)
