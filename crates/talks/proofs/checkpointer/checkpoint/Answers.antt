use Rattle.std.proofs.lemmas.Result.{err_from_is_err_and}
use Rattle.talks.proofs.CheckpointLemmas.{checkpoint_not_begun, checkpoint_finishes}
use Rattle.talks.proofs.checkpointer.checkpoint.Goals as goal

pub returns-in_err-begin : goal.returns-in_err-begin
returns-in_err-begin g c =
    let p = err_from_is_err_and c.from_residual.result c.from_residual.ensures.1 in
    rw (p.1, p.2) (checkpoint_not_begun g.D.Disk c.args.world.now c.begin.new.world
    c.in_err-begin.field-0.0 c.in_err-begin.ensures)

pub returns : goal.returns
returns g c = checkpoint_finishes g.D.Disk c.args.world.now c.begin.new.world c.finish.result
    c.finish.new.world c.in_ok-begin.ensures c.finish.ensures
