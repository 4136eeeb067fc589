use Rattle.std.proofs.lemmas.Result.{err_from_is_err_and}
use Rattle.talks.specs.Checkpoints.{is_frozen}
use Rattle.talks.proofs.CheckpointLemmas.{begin_not_frozen, begins_now}
use Rattle.talks.proofs.checkpointer.begin_now.Goals as goal

pub returns-in_err-freeze : goal.returns-in_err-freeze
returns-in_err-freeze g c =
    let p = err_from_is_err_and c.from_residual.result c.from_residual.ensures.1 in
    rw (p.1, p.2) (begin_not_frozen g.D.Disk c.args.world.now c.freeze.new.world
    (is_frozen c.args.world.now) c.in_err-freeze.field-0.0 c.in_err-freeze.ensures)

pub returns : goal.returns
returns g c = begins_now g.D.Disk c.args.world.now c.freeze.new.world (is_frozen c.args.world.now)
    c.pack.result c.pack.new.self c.in_ok-freeze.ensures c.pack.ensures
