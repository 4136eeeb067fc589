use Rattle.desks.proofs.desk.Desk.undoing.Goals as goal

pub undoing-requires : goal.undoing-requires
undoing-requires g c = (c.self.invariant.0.shelves, c.self.invariant.0.known.book)
