use Rattle.std.specs.Prelude.{None, Some}
use Rattle.desks.proofs.shelf_desk.ShelfDesk.give_up.Given as goal

abbrev pub ghosts-note_touch : goal.ghosts-note_touch
ghosts-note_touch g a = record { touch = record { step = None; left = Some a.left.now } }
