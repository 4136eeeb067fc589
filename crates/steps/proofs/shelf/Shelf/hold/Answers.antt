use Rattle.std.proofs.Common.{subst}
use Rattle.abstract_locks.specs.Holds.{hold, IsAdded}
use Rattle.steps.proofs.shelf.Shelf.hold.Goals as goal

pub returns-clause-held : goal.returns-clause-held
returns-clause-held g c = rw (← c.self.view_is)
    (subst (λ l. IsAdded l c.grant.new.self.holds (hold c.args.number c.args.at c.args.need))
    c.in_ok-reserve.ensures.holds c.grant.ensures.held)
