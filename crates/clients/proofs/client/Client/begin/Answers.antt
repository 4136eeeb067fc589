use Rattle.clients.proofs.Visits.{draws_on}
use Rattle.clients.proofs.client.Client.begin.Goals as goal

pub invariant_of-self-2 : goal.invariant_of-self-2
invariant_of-self-2 g c =
    let i = c.self.inside in
    draws_on g.J.Naming i.line i.line i.watcher i.drawer i.phase c.self.invariant c.draw.new.drawer
    c.in_ok-number.number c.in_ok-number.ensures.drawn.1.after_is
