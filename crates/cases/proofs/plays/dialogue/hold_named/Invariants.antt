use Rattle.store.specs.Openings.{naming_of}
use Rattle.cases.proofs.plays.dialogue.hold_named.Given as goal

abbrev pub ghosts-hold_opened : goal.ghosts-hold_opened
ghosts-hold_opened g a = naming_of g.D.Disk a.opened
