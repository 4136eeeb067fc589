use Rattle.txn.proofs.book.Book.cut.Goals as goal

pub returns-clause-answer : goal.returns-clause-answer
returns-clause-answer g c =
    rw (← c.self.view_is) ((c.cut.ensures.told c.self.inside.shelves c.self.invariant).0)
