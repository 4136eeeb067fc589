use Rattle.std.proofs.lemmas.Result.{err_from_is_err_and}
use Rattle.std.proofs.Common.{◌≡◌, ◌<◌, suc, arith, refl}
use Rattle.talks.proofs.CheckpointLemmas.{gathers_more, gathers_end, gathers_refused, gathers_most}
use Rattle.talks.proofs.checkpointer.gather.Goals as goal

pub loop-init : goal.loop-init
loop-init g c = (0, refl, refl)

pub loop-preserved : goal.loop-preserved
loop-preserved g c = (
  suc c.loop.invariant.0,
  omega (arith, c.loop.invariant.1),
  gathers_more g.D.Disk c.args.world.now c.loop.world c.loop.invariant.0 c.loop.invariant.2 _
      (rw c.if-not-branch.false at c.in_ok-gather.ensures),
)

pub returns-then-not-branch : goal.returns-then-not-branch
returns-then-not-branch g c =
    let few : c.loop.invariant.0 < 256 = omega (arith, c.loop.invariant.1, c.loop-test.true) in
    gathers_end g.D.Disk c.args.world.now c.loop.world c.loop.invariant.0 c.loop.invariant.2 _ few
    (rw c.if-not-branch.true at c.in_ok-gather.ensures)

pub returns-in_err-gather : goal.returns-in_err-gather
returns-in_err-gather g c =
    let p = err_from_is_err_and c.from_residual.result c.from_residual.ensures.1 in
    let few : c.loop.invariant.0 < 256 = omega (arith, c.loop.invariant.1, c.loop-test.true) in
    rw (p.1, p.2) (gathers_refused g.D.Disk c.args.world.now c.loop.world c.loop.invariant.0
    c.loop.invariant.2 _ c.in_err-gather.field-0.0 few c.in_err-gather.ensures)

pub returns : goal.returns
returns g c =
    let all : c.loop.invariant.0 ≡ 256 =
    omega (arith, c.loop.invariant.1, c.loop-test.false, c.loop.auto) in
    gathers_most g.D.Disk c.args.world.now c.loop.world c.loop.invariant.0 c.loop.invariant.2 all
