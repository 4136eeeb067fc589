use Rattle.std.proofs.Common.{sym, ◌∙◌, refl, subst, [], Ok, Err}
use Rattle.std.proofs.lemmas.Result.{err_from_is_err_and}
use Rattle.talks.specs.Plays.{Runs}
use Rattle.talks.specs.Checkpoints.{Freezes}
use Rattle.talks.proofs.CheckpointLemmas.{freeze_not_gathered, freezes_now}
use Rattle.talks.proofs.checkpointer.freeze.Goals as goal

pub returns-then-is_frozen : goal.returns-then-is_frozen
returns-then-is_frozen g c = (
  [],
  subst (λ f. Freezes f (Ok tt) []) (sym c.if-is_frozen.true ∙ c.is_frozen.ensures) (refl, refl),
  refl,
)

pub returns-in_err-gather : goal.returns-in_err-gather
returns-in_err-gather g c =
    let p = err_from_is_err_and c.from_residual.result c.from_residual.ensures.1 in
    rw (p.1, p.2) (subst (λ f. Runs g.D.Disk c.args.world.now
    (Freezes f (Err c.in_err-gather.field-0.0)) c.gather.new.world)
    (sym c.if-is_frozen.false ∙ c.is_frozen.ensures)
    (freeze_not_gathered g.D.Disk c.args.world.now c.gather.new.world
    c.in_err-gather.field-0.0 c.in_err-gather.ensures))

pub returns : goal.returns
returns g c = subst (λ f. Runs g.D.Disk c.args.world.now (Freezes f c.freeze.result)
    c.freeze.new.self) (sym c.if-is_frozen.false ∙ c.is_frozen.ensures)
    (freezes_now g.D.Disk c.args.world.now c.gather.new.world c.freeze.result c.freeze.new.self
    c.in_ok-gather.ensures c.freeze.ensures)
