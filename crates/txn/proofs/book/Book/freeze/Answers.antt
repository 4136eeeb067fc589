use Rattle.std.proofs.Common.{sym, subst}
use Rattle.txn.specs.Freezing.{IsGatheredOf}
use Rattle.txn.proofs.book.Book.freeze.Goals as goal

pub freeze-requires : goal.freeze-requires
freeze-requires g c = record {
  gathered = (
    c.self.inside.shelves,
    c.self.invariant,
    subst (λ b. IsGatheredOf g.B.Parts.collections b c.args.gather.now) (sym c.self.view_is)
        c.requires,
  );
}
