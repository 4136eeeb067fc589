use Rattle.store.specs.Openings.{naming_of}
use Rattle.workloads.proofs.threads.second_call_during_sync.serving.serve_any.Given as goal

abbrev pub ghosts-serve : goal.ghosts-serve
ghosts-serve g a = naming_of g.D.Disk a.opened
