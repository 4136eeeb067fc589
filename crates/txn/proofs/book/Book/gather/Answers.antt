use Rattle.std.proofs.Common.{sym, subst}
use Rattle.txn.specs.Freezing.{IsGatheredOf}
use Rattle.txn.specs.Parts.{GathersOn}
use Rattle.txn.proofs.book.Book.gather.Given.{Over}
use Rattle.txn.proofs.book.Book.gather.Goals as goal

pub gather-requires : goal.gather-requires
gather-requires g c = record {
  next = (
    c.self.inside.shelves,
    record {
      book = c.self.invariant;
      gathered = subst (λ b. IsGatheredOf g.B.Parts.collections b c.args.gather.now)
          (sym c.self.view_is) c.requires;
      copied = c.next_part-part.ensures.copied;
      refused = c.next_part-part.ensures.refusal;
    },
  );
}

-- so the journal gathers on
gathers : (g : Over) (c : goal.After-gather g) → GathersOn g.B.Names.Named.labels
    g.B.Shelf.Shelved.holds g.B.Part.Part.collection g.B.Boosted.meaning g.B.Parts.making
    g.B.Parts.collections g.B.Parts.whole g.B.Parts.fits c.self.inside.journal c.self.inside.shelves
    c.args.gather.now c.gather.result c.gather.new.self c.gather.new.gather
gathers g c = c.gather.ensures c.self.inside.shelves (record {
  book = c.self.invariant;
  gathered = subst (λ b. IsGatheredOf g.B.Parts.collections b c.args.gather.now)
      (sym c.self.view_is) c.requires;
  copied = c.next_part-part.ensures.copied;
  refused = c.next_part-part.ensures.refusal;
})

pub invariant_of-self : goal.invariant_of-self
invariant_of-self g c = (gathers g c).kept

pub returns-clause-answer : goal.returns-clause-answer
returns-clause-answer g c = rw (← c.self.view_is) (gathers g c).answer

pub returns-clause-along : goal.returns-clause-along
returns-clause-along g c = (gathers g c).along
