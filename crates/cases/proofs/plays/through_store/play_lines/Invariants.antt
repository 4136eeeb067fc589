use Rattle.store.specs.Openings.{naming_of}
use Rattle.cases.proofs.plays.through_store.play_lines.Given as goal

abbrev pub ghosts-play_opened : goal.ghosts-play_opened
ghosts-play_opened g a = naming_of g.D.Disk a.opened
