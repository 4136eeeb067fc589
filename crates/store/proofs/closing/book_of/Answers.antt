use Rattle.std.proofs.Common.{sym, subst, ap, ◌∙◌}
use Rattle.catalog.specs.Fours.{pick}
use Rattle.steps.proofs.FourShelves.{four_same}
use Rattle.txn.specs.Shelved.{IsBook, book_state}
use Rattle.desks.specs.Desks.{IsDesk}
use Rattle.desks.specs.Told.{told_book}
use Rattle.desks.proofs.Touching.{known_is}
use Rattle.store.proofs.closing.book_of.Goals as goal

-- The four shelves are those that the near ends know.
pub of_shelves-requires : goal.of_shelves-requires
of_shelves-requires g c =
    let d = c.into_parts-journal.ensures.desk.1 in
    subst (IsBook g.B.Boosted.meaning g.B.Parts.making g.B.Parts.collections g.B.Parts.whole
    g.B.Parts.fits c.into_parts-journal.result.0)
    (four_same d.shelves c.compare_all-shelves.result
    (λ w. known_is (pick c.into_parts-journal.result.1 w) (pick d.shelves w)
    (pick c.compare_all-shelves.result w) (d.known.leads w) (c.compare_all-shelves.ensures w)))
    d.known.book

pub returns-clause-desk : goal.returns-clause-desk
returns-clause-desk g c =
    let near = c.into_parts-journal.ensures.desk.0 in
    let d = c.into_parts-journal.ensures.desk.1 in (
      near,
      subst (λ b. IsDesk g.J.Naming (told_book g.B.Parts.collections b)
          c.into_parts-journal.result.2 c.into_parts-journal.result.3 near)
          (ap (book_state g.B.Parts.whole c.into_parts-journal.result.0)
          (four_same d.shelves c.compare_all-shelves.result
          (λ w. known_is (pick c.into_parts-journal.result.1 w) (pick d.shelves w)
          (pick c.compare_all-shelves.result w) (d.known.leads w)
          (c.compare_all-shelves.ensures w))) ∙
          sym c.of_shelves.ensures) d.desk,
    )
