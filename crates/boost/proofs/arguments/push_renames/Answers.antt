use Rattle.std.proofs.Common.{◌++◌, codes, sym, ◌∙◌, ap, append-nil}
use Rattle.clap.specs.Words.{found_of, rows_of}
use Rattle.clap.specs.Walk.{texts}
use Rattle.boost.specs.Arguments.{renames, values_of}
use Rattle.boost.proofs.CopyEdits.{all_renamed, values_some, values_none}
use Rattle.boost.proofs.arguments.push_renames.Goals as goal

pub returns-in_default : goal.returns-in_default
returns-in_default c =
    let edits = c.args.edits.now.items in
    sym (append-nil edits) ∙ ap (λ l. edits ++ renames l)
    (values_none (found_of c.args.found.now) (codes "rename") c.in_default.ensures)

pub loop-left-init : goal.loop-left-init
loop-left-init c =
    let edits = c.args.edits.now.items in
    ap (λ l. edits ++ renames l)
    (values_some (found_of c.args.found.now) (codes "rename") (texts c.in-Some.left.now)
    c.in-Some.ensures)

pub returns : goal.returns
returns c =
    all_renamed c.loop-left.edits.items
    (c.args.edits.now.items ++
    renames (values_of (codes "rename") (rows_of (found_of c.args.found.now))))
    c.loop-left.left.now c.in_default-left.len_below c.loop-left.invariant
