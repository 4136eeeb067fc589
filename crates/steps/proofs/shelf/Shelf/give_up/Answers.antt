use Rattle.steps.proofs.shelf.Shelf.give_up.Goals as goal

pub returns-clause-holds : goal.returns-clause-holds
returns-clause-holds g c = rw (← c.self.view_is) c.give_up.ensures.holds
