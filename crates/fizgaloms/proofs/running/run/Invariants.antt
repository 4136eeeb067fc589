use Rattle.store.specs.Openings.{naming_of}
use Rattle.fizgaloms.proofs.running.run.Given as goal

abbrev pub ghosts-run_opened : goal.ghosts-run_opened
ghosts-run_opened g a = naming_of g.D.Disk a.opened
