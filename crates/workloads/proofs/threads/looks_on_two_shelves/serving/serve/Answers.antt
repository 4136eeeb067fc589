use denote.Param.{param}
use Rattle.store.proofs.Sends.{parts, any_store_sync}
use Rattle.workloads.proofs.threads.looks_on_two_shelves.serving.serve.Goals as goal

pub bump_both-requires-sync-S : goal.bump_both-requires-sync-S
bump_both-requires-sync-S g c κs within =
    let b = c.type_bounds in
    let store = any_store_sync (param 1 g.row.D) (param 0 g.row.J) g.J.Naming g.D.Disk b.send-D
    b.send-J b.sync-J (param 2 g.row.B) (param 4 g.row.B-Part) (param 5 g.row.B-Names)
    (param 6 g.row.B-Shelf) g.B.Parts g.B.Boosted g.B.Part.Part g.B.Names.Named g.B.Shelf.Shelved
    g.B.Shelf.Boosted b.send-B-Part b.send-B-Names b.send-B-Shelf in
    search (parts, store)
