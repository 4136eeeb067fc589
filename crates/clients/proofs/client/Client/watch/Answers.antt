use Rattle.std.proofs.Common.{[]}
use Rattle.clients.proofs.Seeing.{hears_none, hears_then, waits_then}
use Rattle.clients.proofs.client.Client.watch.Goals as goal

pub loop-init : goal.loop-init
loop-init g c = ([], [], hears_none c.args.self.now)

pub loop-preserved : goal.loop-preserved
loop-preserved g c =
    let heard = c.loop.invariant in
    let more = c.in-None.ensures.none in (
      _,
      _,
      hears_then c.args.self.now c.loop.self c.look.new.self heard.0 more.0 heard.1 more.1
          heard.2 more.2,
    )

pub returns-in-Some-clause-some : goal.returns-in-Some-clause-some
returns-in-Some-clause-some g c =
    let heard = c.loop.invariant in
    waits_then c.args.self.now c.loop.self c.look.new.self c.args.ticket.now.place
    c.in-Some.done heard.0 heard.1 heard.2 c.in-Some.ensures.some

pub returns-clause-none : goal.returns-clause-none
returns-clause-none g c = c.loop.invariant
