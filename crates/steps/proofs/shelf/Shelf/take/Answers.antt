use Rattle.std.proofs.Common.{sym, ◌∙◌, ap, subst}
use Rattle.abstract_locks.specs.Holds.{IsClear, IsAdded, hold}
use Rattle.undo_log.specs.Entries.{entry_of, place_of}
use Rattle.steps.specs.Shelves.{ShelfState}
use Rattle.steps.proofs.shelf.Shelf.take.Goals as goal

pub grant-requires-clause-clear : goal.grant-requires-clause-clear
grant-requires-clause-clear g c = rw c.at-at.ensures
    (subst (λ l. IsClear l c.args.number (place_of (entry_of c.args.entry.now)) c.args.need)
    (ap (λ (s : ShelfState _). s.holds) (sym c.self.view_is) ∙ sym c.in_ok-reserve.ensures.holds)
    c.requires.clear)

pub returns-clause-held : goal.returns-clause-held
returns-clause-held g c = rw (← c.self.view_is, ← c.at-at.ensures)
    (subst (λ l. IsAdded l c.grant.new.self.holds (hold c.args.number c.at-at.result c.args.need))
    c.in_ok-reserve.ensures.holds c.grant.ensures.held)
