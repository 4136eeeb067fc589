use Rattle.std.proofs.Common.{sym}
use Rattle.txn.proofs.book.Book.journal.Goals as goal

pub returns : goal.returns
returns g c = (c.self.inside.shelves, c.self.invariant, sym c.self.view_is)
