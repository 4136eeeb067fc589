use Rattle.std.proofs.Common.{None, Some}
use Rattle.desks.proofs.shelf_desk.ShelfDesk.new.Given as goal

-- the opening, with what the shelf holds
abbrev pub ghosts-note_touch : goal.ghosts-note_touch
ghosts-note_touch g a = record { touch = record { step = None; left = Some a.left.now } }
