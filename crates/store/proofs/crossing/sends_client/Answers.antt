use denote.Param.{param}
use denote.Param.Send.{param_send, arg_send}
use Rattle.store.proofs.Sends.{client_send}
use Rattle.store.proofs.crossing.sends_client.Goals as goal

pub sent-requires-send-T : goal.sent-requires-send-T
sent-requires-send-T g c κs within =
    let b = c.type_bounds in
    let client = client_send (param 0 g.row.J) g.J.Naming b.send-J b.sync-J (param 1 g.row.B)
    (param 2 g.row.B-Part) (param 3 g.row.B-Names) (param 4 g.row.B-Shelf) g.B.Parts g.B.Boosted
    g.B.Part.Part g.B.Names.Named g.B.Shelf.Shelved g.B.Shelf.Boosted b.send-B-Names b.send-B-Shelf in
    search (param_send, arg_send, client)
