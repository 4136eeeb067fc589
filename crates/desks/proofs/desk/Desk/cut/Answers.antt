use Rattle.desks.proofs.desk.Desk.cut.Goals as goal

pub undoing_behind-requires : goal.undoing_behind-requires
undoing_behind-requires g c = record {
  kept = (c.self.invariant.0.shelves, c.self.invariant.0.known.book);
}
