use Rattle.std.proofs.lemmas.Result.{err_from_is_err_and}
use Rattle.std.proofs.Common.{refl, Ok, Err}
use Rattle.world.specs.declared.step.Step.{Step}
use Rattle.world.specs.declared.step.Answer.{Answer}
use Rattle.talks.proofs.Stepping.{asked}
use Rattle.talks.proofs.client.Client.make.Goals as goal

pub returns-in_err-place : goal.returns-in_err-place
returns-in_err-place g c =
    let p = err_from_is_err_and c.from_residual.result c.from_residual.ensures.1 in
    let ran = asked g.D.Disk c.args.world.now c.make.new.self
    (Step.Make c.args.name.now c.args.kind) Answer.Placed (Err c.in_err-place.field-0.0)
    c.in_err-place.ensures in
    rw (p.1, p.2) (ran.0, (ran.1, refl), ran.2)

pub returns : goal.returns
returns g c =
    let ran = asked g.D.Disk c.args.world.now c.make.new.self
    (Step.Make c.args.name.now c.args.kind) Answer.Placed (Ok c.in_ok-place.place)
    c.in_ok-place.ensures in
    (ran.0, (ran.1, refl), ran.2)
