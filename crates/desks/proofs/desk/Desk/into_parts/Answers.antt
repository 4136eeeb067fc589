use Rattle.desks.proofs.desk.Desk.into_parts.Goals as goal

pub returns-clause-desk : goal.returns-clause-desk
returns-clause-desk g c = (c.self.inside.near, c.self.invariant.0)
