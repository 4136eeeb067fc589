use Rattle.std.proofs.Common.{subst}
use Rattle.records.specs.Short.{AreShort}
use Rattle.txn.specs.Books.{IsKept}
use Rattle.steps.specs.Sound.{IsSound}
use Rattle.txn.proofs.book.Book.upheld.Goals as goal

pub returns : goal.returns
returns g c =
    subst (IsKept g.B.Boosted.meaning g.B.Parts.making (λ f s. AreShort f (g.B.Parts.collections s))
    (IsSound g.B.Boosted.meaning g.B.Parts.making)) c.self.view_is c.self.invariant.kept
