use Rattle.std.proofs.Common.{sym}
use Rattle.std.proofs.lemmas.Bool.{ltb-true}
use Rattle.undo_log.proofs.Index.{next_handle, none_above}
use Rattle.undo_log.proofs.live.next_of.Goals as goal

pub returns-in_err-get-clause-none : goal.returns-in_err-get-clause-none
returns-in_err-get-clause-none c =
    let below = rw c.deref.ensures.value at c.place_above-place.ensures.below in
    let over = rw c.deref-2.ensures.value at c.in_err-get.ensures.lookup in
    rw c.from_residual.ensures
    (none_above c.args.table.now.slots c.args.table.now.index.items c.requires c.args.after
    c.place_above-place.result below over.3)

pub returns-clause-found : goal.returns-clause-found
returns-clause-found c =
    let below = rw c.deref.ensures.value at c.place_above-place.ensures.below in
    let above = rw c.deref.ensures.value at c.place_above-place.ensures.above in
    let there = rw c.deref-2.ensures.value at c.in_ok-get.ensures.lookup in
    next_handle c.args.table.now.slots c.args.table.now.index.items c.requires
    c.place_above-place.result (ltb-true _ _ (sym there.0)) c.in_ok-get.field-0.now there.1
    c.args.after below above
