use Rattle.std.specs.List.{AllZip}
use Rattle.std.proofs.Common.{take}
use Rattle.catalog.specs.Holdings.{Measures}
use Rattle.txn.proofs.book.Book.measure.Given as goal

abbrev pub invariant-loop-at : goal.invariant-loop-at
invariant-loop-at g l = AllZip Measures (take l.at (g.B.Parts.collections l.fn.self.state.now)) l.all.items
