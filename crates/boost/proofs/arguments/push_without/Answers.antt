use Rattle.std.proofs.Common.{◌++◌, map, codes, sym, ◌∙◌, ap, arith, append-nil}
use Rattle.clap.specs.Words.{found_of}
use Rattle.clap.specs.Walk.{texts}
use Rattle.recovery.specs.declared.editing.Edit.{Edit}
use Rattle.boost.proofs.CopyEdits.{all_without, values_some, values_none}
use Rattle.boost.proofs.arguments.push_without.Goals as goal

pub returns-in_default : goal.returns-in_default
returns-in_default c =
    let edits = c.args.edits.now.items in
    sym (append-nil edits) ∙ ap (λ l. edits ++ map Edit.Without l)
    (values_none (found_of c.args.found.now) (codes "without") c.in_default.ensures)

pub returns : goal.returns
returns c =
    let edits = c.args.edits.now.items in
    let names = c.in-Some.names.now in
    all_without edits c.loop-name.edits.items names c.loop-name.name-index
    (omega (arith, c.loop-name-test.false)) c.loop-name.invariant ∙
    ap (λ l. edits ++ map Edit.Without l)
    (values_some (found_of c.args.found.now) (codes "without") (texts names) c.in-Some.ensures)
