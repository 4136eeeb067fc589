use Rattle.std.proofs.Common.{OnOk, subst}
use Rattle.catalog.specs.Fours.{which_of, put}
use Rattle.txn.specs.declared.actions.Action.{Action}
use Rattle.txn.specs.Books.{Notes, Takes}
use Rattle.txn.specs.Shelved.{book_state}
use Rattle.txn.proofs.BookParts.{of_book, book_told, book_kept}
use Rattle.txn.proofs.book.Book.back.Goals as goal

pub back-requires-clause-kept : goal.back-requires-clause-kept
back-requires-clause-kept g c = of_book (which_of c.in-Some.at) c.self.inside.journal
    c.self.inside.shelves c.self.invariant c.of_mut.result.now c.of_mut.ensures.value

pub invariant_of-self-2 : goal.invariant_of-self-2
invariant_of-self-2 g c = book_kept (which_of c.in-Some.at) c.self.inside.journal
    c.self.inside.shelves c.self.invariant c.of_mut.result.now c.of_mut.ensures.value
    c.back.new.self c.back.new.shelf c.back.ensures

pub returns-clause-answer : goal.returns-clause-answer
returns-clause-answer g c = subst
    (λ b. Takes g.B.Boosted.meaning g.B.Parts.making b (Action.Back c.args.number c.back.result)
    (book_state g.B.Parts.whole c.back.new.self
    (put c.self.inside.shelves (which_of c.in-Some.at) c.back.new.shelf)))
    c.self.view_is (book_told (which_of c.in-Some.at) c.self.inside.journal
    c.self.inside.shelves c.self.invariant c.of_mut.result.now c.of_mut.ensures.value
    c.back.new.self c.back.new.shelf c.back.ensures).answer

pub returns-clause-settled : goal.returns-clause-settled
returns-clause-settled g c = rw (← c.self.view_is)
    (book_told (which_of c.in-Some.at) c.self.inside.journal
    c.self.inside.shelves c.self.invariant c.of_mut.result.now c.of_mut.ensures.value
    c.back.new.self c.back.new.shelf c.back.ensures).settles

pub returns-clause-goes : goal.returns-clause-goes
returns-clause-goes g c = rw (← c.self.view_is)
    (book_told (which_of c.in-Some.at) c.self.inside.journal
    c.self.inside.shelves c.self.invariant c.of_mut.result.now c.of_mut.ensures.value
    c.back.new.self c.back.new.shelf c.back.ensures).goes

pub returns-clause-notes : goal.returns-clause-notes
returns-clause-notes g c = subst
    (λ b. OnOk c.back.result (Notes g.B.Boosted.meaning b (Action.Back c.args.number c.back.result)
    (book_state g.B.Parts.whole c.back.new.self
    (put c.self.inside.shelves (which_of c.in-Some.at) c.back.new.shelf))))
    c.self.view_is (book_told (which_of c.in-Some.at) c.self.inside.journal
    c.self.inside.shelves c.self.invariant c.of_mut.result.now c.of_mut.ensures.value
    c.back.new.self c.back.new.shelf c.back.ensures).notes
