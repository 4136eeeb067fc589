use Rattle.std.proofs.lemmas.Result.{err_from_is_err_and}
use Rattle.std.proofs.Common.{◌≡◌, ◌<◌, suc, arith, refl}
use Rattle.talks.proofs.ClientLemmas.{undoes_more, undoes_end, undoes_refused, undoes_most}
use Rattle.talks.proofs.client.undo_all.Goals as goal

pub loop-init : goal.loop-init
loop-init g c = (0, refl, refl)

pub loop-preserved : goal.loop-preserved
loop-preserved g c = (
  suc c.loop.invariant.0,
  omega (arith, c.loop.invariant.1),
  undoes_more g.D.Disk c.args.number c.args.world.now c.loop.world c.loop.invariant.0
      c.loop.invariant.2 _ (rw c.if-not-branch.false at c.in_ok-back.ensures),
)

pub returns-then-not-branch : goal.returns-then-not-branch
returns-then-not-branch g c =
    let few : c.loop.invariant.0 < 1025 = omega (arith, c.loop.invariant.1, c.loop-test.true) in
    undoes_end g.D.Disk c.args.number c.args.world.now c.loop.world c.loop.invariant.0
    c.loop.invariant.2 _ few (rw c.if-not-branch.true at c.in_ok-back.ensures)

pub returns-in_err-back : goal.returns-in_err-back
returns-in_err-back g c =
    let p = err_from_is_err_and c.from_residual.result c.from_residual.ensures.1 in
    let few : c.loop.invariant.0 < 1025 = omega (arith, c.loop.invariant.1, c.loop-test.true) in
    rw (p.1, p.2) (undoes_refused g.D.Disk c.args.number c.args.world.now c.loop.world
    c.loop.invariant.0 c.loop.invariant.2 _ c.in_err-back.field-0.0 few c.in_err-back.ensures)

pub returns : goal.returns
returns g c =
    let all : c.loop.invariant.0 ≡ 1025 =
    omega (arith, c.loop.invariant.1, c.loop-test.false, c.loop.auto) in
    undoes_most g.D.Disk c.args.number c.args.world.now c.loop.world c.loop.invariant.0
    c.loop.invariant.2 all
