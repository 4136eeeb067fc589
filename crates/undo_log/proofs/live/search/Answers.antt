use Rattle.undo_log.proofs.Index.{handle_found, none_in_gap}
use Rattle.undo_log.proofs.live.search.Goals as goal

pub returns-in-Ok-clause-found : goal.returns-in-Ok-clause-found
returns-in-Ok-clause-found c =
    let found = rw c.deref.ensures.value at c.in-Ok.ensures.found in
    handle_found c.args.table.now.slots c.args.table.now.index.items c.requires c.args.number
    c.in-Ok.place found.0 found.1 c.index.result.now c.index.ensures

pub returns-in-Err-clause-none : goal.returns-in-Err-clause-none
returns-in-Err-clause-none c =
    let gap = rw c.deref.ensures.value at c.in-Err.ensures.absent in
    none_in_gap c.args.table.now.slots c.args.table.now.index.items c.requires c.args.number
    c.in-Err.field-0 gap
