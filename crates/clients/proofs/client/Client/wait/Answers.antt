use Rattle.clients.proofs.Seeing.{waits_then}
use Rattle.clients.proofs.client.Client.wait.Goals as goal

pub returns-in-None : goal.returns-in-None
returns-in-None g c =
    let heard = c.in-None.ensures.none in
    waits_then c.args.self.now c.watch.new.self c.sleep.new.self c.args.ticket.now.place
    c.sleep.result heard.0 heard.1 heard.2 c.sleep.ensures
