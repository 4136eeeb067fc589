use denote.Param.{param}
use Rattle.store.proofs.Sends.{parts, any_store_sync}
use Rattle.store.proofs.crossing.shares_store.Goals as goal

pub shared-requires-sync-T : goal.shared-requires-sync-T
shared-requires-sync-T g c κs within =
    let b = c.type_bounds in
    let store = any_store_sync (param 0 g.row.D) (param 1 g.row.J) g.J.Naming g.D.Disk b.send-D
    b.send-J b.sync-J (param 2 g.row.B) (param 3 g.row.B-Part) (param 4 g.row.B-Names)
    (param 5 g.row.B-Shelf) g.B.Parts g.B.Boosted g.B.Part.Part g.B.Names.Named g.B.Shelf.Shelved
    g.B.Shelf.Boosted b.send-B-Part b.send-B-Names b.send-B-Shelf in
    search (parts, store)
