use Rattle.std.proofs.Common.{[]}
use Rattle.clients.proofs.Seeing.{hears_none, waits_then}
use Rattle.clients.proofs.client.Client.sleep.Goals as goal

pub loop-init : goal.loop-init
loop-init g c = ([], [], hears_none c.args.self.now)

pub returns-in-Some-look : goal.returns-in-Some-look
returns-in-Some-look g c =
    let heard = c.loop.invariant in
    waits_then c.args.self.now c.loop.self c.look.new.self c.args.ticket.now.place
    c.in-Some-look.done heard.0 heard.1 heard.2 c.in-Some-look.ensures.some
