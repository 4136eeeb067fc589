use Rattle.std.proofs.Common.{OnOk, subst}
use Rattle.catalog.specs.Fours.{which_of, put}
use Rattle.txn.specs.declared.actions.Action.{Action}
use Rattle.txn.specs.declared.actions.Target.{Target}
use Rattle.txn.specs.Books.{Notes}
use Rattle.txn.specs.Shelved.{book_state}
use Rattle.txn.proofs.BookParts.{of_book, book_told, book_kept}
use Rattle.txn.proofs.book.Book.ask.Goals as goal

pub ask-requires-clause-kept : goal.ask-requires-clause-kept
ask-requires-clause-kept g c = of_book (which_of c.args.at) c.self.inside.journal
    c.self.inside.shelves c.self.invariant c.of_mut-shelf.result.now c.of_mut-shelf.ensures.value

pub invariant_of-self : goal.invariant_of-self
invariant_of-self g c = book_kept (which_of c.args.at) c.self.inside.journal
    c.self.inside.shelves c.self.invariant c.of_mut-shelf.result.now c.of_mut-shelf.ensures.value
    c.ask.new.self c.ask.new.shelf c.ask.ensures.step

pub returns-clause-answer : goal.returns-clause-answer
returns-clause-answer g c = rw (← c.self.view_is)
    (book_told (which_of c.args.at) c.self.inside.journal
    c.self.inside.shelves c.self.invariant c.of_mut-shelf.result.now c.of_mut-shelf.ensures.value
    c.ask.new.self c.ask.new.shelf c.ask.ensures.step).answer

pub returns-clause-settled : goal.returns-clause-settled
returns-clause-settled g c = rw (← c.self.view_is)
    (book_told (which_of c.args.at) c.self.inside.journal
    c.self.inside.shelves c.self.invariant c.of_mut-shelf.result.now c.of_mut-shelf.ensures.value
    c.ask.new.self c.ask.new.shelf c.ask.ensures.step).settles

pub returns-clause-goes : goal.returns-clause-goes
returns-clause-goes g c = rw (← c.self.view_is)
    (book_told (which_of c.args.at) c.self.inside.journal
    c.self.inside.shelves c.self.invariant c.of_mut-shelf.result.now c.of_mut-shelf.ensures.value
    c.ask.new.self c.ask.new.shelf c.ask.ensures.step).goes

pub returns-clause-notes : goal.returns-clause-notes
returns-clause-notes g c = subst
    (λ b. OnOk c.ask.result (Notes g.B.Boosted.meaning b
    (Action.Ask c.args.number (Target.Number c.args.at) c.args.call.now c.args.when
    c.ask.result)
    (book_state g.B.Parts.whole c.ask.new.self
    (put c.self.inside.shelves (which_of c.args.at) c.ask.new.shelf))))
    c.self.view_is (book_told (which_of c.args.at) c.self.inside.journal
    c.self.inside.shelves c.self.invariant c.of_mut-shelf.result.now c.of_mut-shelf.ensures.value
    c.ask.new.self c.ask.new.shelf c.ask.ensures.step).notes
