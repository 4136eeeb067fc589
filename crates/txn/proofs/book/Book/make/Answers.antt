use Rattle.std.proofs.Common.{◌≡◌, ◌%◌, length, OnOk, refl, sym, ◌∙◌, ap, subst}
use Rattle.catalog.specs.Fours.{Which, which_of, pick, put}
use Rattle.catalog.specs.Laws.Numbers.{which_is}
use Rattle.txn.specs.declared.actions.Action.{Action}
use Rattle.txn.specs.Books.{Notes, Takes}
use Rattle.txn.specs.Shelved.{IsBook, book_state, IsServed, SettlesMade}
use Rattle.txn.proofs.BookParts.{of_book, book_told, book_kept}
use Rattle.txn.proofs.book.Book.make.Given.{Over}
use Rattle.txn.proofs.book.Book.make.Goals as goal

-- the shelf of the next number
abbrev turn : (g : Over) → goal.After-self-1 g → Which
turn g c = which_of (length (g.B.Names.Named.labels c.self.inside.journal.names))

is_turn : (g : Over) (c : goal.After-self-1 g) → which_of (c.count.result % 4) ≡ turn g c
is_turn g c = sym (which_is c.count.result (c.count.result % 4) refl) ∙ ap which_of c.count.ensures

pub make-requires : goal.make-requires
make-requires g c =
    let i = c.self.inside in
    let w = which_of (length (g.B.Names.Named.labels i.journal.names)) in
    let turn = sym (which_is c.count.result (c.count.result % 4) refl) ∙
    ap which_of c.count.ensures in
    record {
      kept = of_book w i.journal i.shelves c.self.invariant c.of_mut-shelf.result.now
          (c.of_mut-shelf.ensures.value ∙ ap (pick i.shelves) turn);
    }

-- it lies there
made : (g : Over) (c : goal.After-self-1 g) → let i = c.self.inside in
    c.of_mut-shelf.result.now ≡ pick i.shelves (turn g c)
made g c = c.of_mut-shelf.ensures.value ∙ ap (pick c.self.inside.shelves) (is_turn g c)

pub invariant_of-self : goal.invariant_of-self
invariant_of-self g c =
    let i = c.self.inside in
    subst (λ w. IsBook g.B.Boosted.meaning g.B.Parts.making g.B.Parts.collections g.B.Parts.whole
    g.B.Parts.fits c.make.new.self (put i.shelves w c.make.new.shelf)) (sym (is_turn g c))
    (book_kept (turn g c) i.journal i.shelves c.self.invariant c.of_mut-shelf.result.now (made g c)
    c.make.new.self c.make.new.shelf c.make.ensures)

-- what is told of it, with the shelf of its turn
abbrev Told : (g : Over) → (c : goal.After-self-1 g) → Which → Type 0
Told g c w =
    let i = c.self.inside in
    let b = book_state g.B.Parts.whole i.journal i.shelves in
    let d = book_state g.B.Parts.whole c.make.new.self (put i.shelves w c.make.new.shelf) in
    IsServed g.B.Boosted.meaning g.B.Parts.making g.B.Parts.collections
    (Action.Make c.args.name.now c.args.kind) c.make.result
    (OnOk c.make.result
    (SettlesMade g.B.Boosted.meaning g.B.Parts.making c.args.name.now c.args.kind b d)) b d

told : (g : Over) (c : goal.After-self-1 g) → Told g c (which_of (c.count.result % 4))
told g c =
    let i = c.self.inside in
    subst (Told g c) (sym (is_turn g c))
    (book_told (turn g c) i.journal i.shelves c.self.invariant c.of_mut-shelf.result.now (made g c)
    c.make.new.self c.make.new.shelf c.make.ensures)

pub returns-clause-answer : goal.returns-clause-answer
returns-clause-answer g c =
    subst (λ b. Takes g.B.Boosted.meaning g.B.Parts.making b
    (Action.Make c.args.name.now c.args.kind c.make.result)
    (book_state g.B.Parts.whole c.make.new.self
    (put c.self.inside.shelves (which_of (c.count.result % 4)) c.make.new.shelf)))
    c.self.view_is (told g c).answer

pub returns-clause-settled : goal.returns-clause-settled
returns-clause-settled g c = rw (← c.self.view_is) (told g c).settles

pub returns-clause-goes : goal.returns-clause-goes
returns-clause-goes g c = rw (← c.self.view_is) (told g c).goes

pub returns-clause-notes : goal.returns-clause-notes
returns-clause-notes g c = subst
    (λ b. OnOk c.make.result (Notes g.B.Boosted.meaning b
    (Action.Make c.args.name.now c.args.kind c.make.result)
    (book_state g.B.Parts.whole c.make.new.self
    (put c.self.inside.shelves (which_of (c.count.result % 4)) c.make.new.shelf))))
    c.self.view_is (told g c).notes
