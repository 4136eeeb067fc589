use Rattle.std.specs.Prelude.{unwrap_or}
use Rattle.std.proofs.lemmas.Result.{err_from_is_err_and}
use Rattle.talks.specs.Checkpoints.{left_in}
use Rattle.talks.proofs.CheckpointLemmas.{finish_not_laid, finish_flips}
use Rattle.talks.proofs.checkpointer.finish.Goals as goal

pub returns-in_err-lay_all : goal.returns-in_err-lay_all
returns-in_err-lay_all g c =
    let p = err_from_is_err_and c.from_residual.result c.from_residual.ensures.1 in
    rw (p.1, p.2) (finish_not_laid g.D.Disk c.args.world.now c.lay_all.new.world
    (unwrap_or (left_in c.args.world.now) 0) c.in_err-lay_all.field-0.0
    c.in_err-lay_all.ensures)

pub returns : goal.returns
returns g c = finish_flips g.D.Disk c.args.world.now c.lay_all.new.world
    (unwrap_or (left_in c.args.world.now) 0) c.flip.result c.flip.new.self c.in_ok-lay_all.ensures
    c.flip.ensures
