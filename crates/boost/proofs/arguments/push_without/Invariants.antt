use Rattle.std.proofs.Common.{◌≡◌, ◌++◌, map, take}
use Rattle.clap.specs.Walk.{texts}
use Rattle.recovery.specs.declared.editing.Edit.{Edit}
use Rattle.boost.proofs.arguments.push_without.Given as goal

abbrev pub invariant-loop-name : goal.invariant-loop-name
invariant-loop-name l = l.edits.items ≡
    l.initial.edits.items ++ map Edit.Without (texts (take l.name-index l.names))
