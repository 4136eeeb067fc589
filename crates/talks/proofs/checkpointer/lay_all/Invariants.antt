use Rattle.talks.proofs.CheckpointLemmas.{HasLaid}
use Rattle.talks.proofs.checkpointer.lay_all.Given as goal

abbrev pub invariant-loop : goal.invariant-loop
invariant-loop g l = HasLaid g.D.Disk l.fn.world l.counter l.world
