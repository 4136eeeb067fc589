use denote.Param.{param}
use Rattle.store.proofs.Sends.{parts, store_sync}
use Rattle.workloads.proofs.threads.second_call_during_sync.serving.serve.Goals as goal

pub keep_and_call-requires-sync-S : goal.keep_and_call-requires-sync-S
keep_and_call-requires-sync-S g c κs within =
    let b = c.type_bounds in
    let store = store_sync (param 1 g.row.D) (param 0 g.row.J) g.J.Naming g.D.Disk b.send-D b.send-J
    b.sync-J in
    search (parts, store)
