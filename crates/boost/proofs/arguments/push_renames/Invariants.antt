use Rattle.std.proofs.Common.{◌≡◌, ◌++◌, codes, length}
use Rattle.clap.specs.Words.{found_of, rows_of}
use Rattle.clap.specs.Walk.{texts}
use Rattle.boost.specs.Arguments.{renames, values_of}
use Rattle.boost.proofs.arguments.push_renames.Given as goal

abbrev pub invariant-loop-left : goal.invariant-loop-left
invariant-loop-left l = l.edits.items ++ renames (texts l.left) ≡
    l.initial.edits.items ++ renames (values_of (codes "rename") (rows_of (found_of l.found)))

abbrev pub decreases-loop-left : goal.decreases-loop-left
decreases-loop-left l = length l.left
