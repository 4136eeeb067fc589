use Rattle.clients.proofs.client.Client.upheld.Goals as goal

pub returns : goal.returns
returns g c = rw (← c.self.view_is) c.self.invariant.legal
