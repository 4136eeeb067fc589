use Rattle.std.proofs.Common.{refl, sym}
use Rattle.std.proofs.lemmas.Bool.{ltb-true}
use Rattle.undo_log.proofs.Index.{least_handle, no_handle}
use Rattle.undo_log.proofs.live.least_of.Goals as goal

pub returns-in_err-handle-clause-none : goal.returns-in_err-handle-clause-none
returns-in_err-handle-clause-none c =
    let over = rw c.deref.ensures.value at c.in_err-handle.ensures.item in
    rw c.from_residual.ensures
    (no_handle c.args.table.now.slots c.args.table.now.index.items c.requires over.3)

pub returns-clause-found : goal.returns-clause-found
returns-clause-found c =
    let there = rw c.deref.ensures.value at c.in_ok-handle.ensures.item in
    least_handle c.args.table.now.slots c.args.table.now.index.items c.requires 0
    (ltb-true _ _ (sym there.0)) c.in_ok-handle.handle.now there.1 refl
