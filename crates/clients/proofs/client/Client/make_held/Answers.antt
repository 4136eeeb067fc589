use Rattle.clients.proofs.Visits.{steps_on}
use Rattle.clients.proofs.client.Client.make_held.Goals as goal

pub invariant_of-self : goal.invariant_of-self
invariant_of-self g c =
    let i = c.self-2.inside in
    steps_on g.J.Naming i.line c.make-made.new.me i.watcher i.drawer i.phase c.self-2.invariant _
    c.make-made.ensures
