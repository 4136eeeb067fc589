use Rattle.std.proofs.Common.{◌≡◌, ◌<◌, ◌∙◌, [], ap, arith, refl, subst}
use Rattle.std.specs.Prelude.{unwrap_or}
use Rattle.std.proofs.lemmas.Result.{err_from_is_err_and}
use Rattle.talks.specs.Checkpoints.{left_in}
use Rattle.talks.proofs.CheckpointLemmas.{lays_more, lays_refused, lays_all}
use Rattle.talks.proofs.checkpointer.lay_all.Goals as goal

pub loop-init : goal.loop-init
loop-init g c = ([], tt, refl, refl)

pub loop-preserved : goal.loop-preserved
loop-preserved g c = lays_more g.D.Disk c.args.world.now c.loop.world c.loop.counter
    c.loop.invariant c.piece.new.self c.in_ok-_more._more c.in_ok-_more.ensures

pub returns-in_err-_more : goal.returns-in_err-_more
returns-in_err-_more g c =
    let p = err_from_is_err_and c.from_residual.result c.from_residual.ensures.1 in
    let left : c.unwrap_or-end.result ≡ unwrap_or (left_in c.args.world.now) 0 =
    c.unwrap_or-end.ensures ∙ ap (λ o. unwrap_or o 0) c.left.ensures in
    let few : c.loop.counter < unwrap_or (left_in c.args.world.now) 0 =
    subst (λ n. c.loop.counter < n) left c.loop-test.true in
    rw (p.1, p.2) (lays_refused g.D.Disk c.args.world.now c.loop.world c.loop.counter
    c.loop.invariant (unwrap_or (left_in c.args.world.now) 0) c.in_err-_more.field-0.0
    c.piece.new.self few c.in_err-_more.ensures)

pub returns : goal.returns
returns g c =
    let left : c.unwrap_or-end.result ≡ unwrap_or (left_in c.args.world.now) 0 =
    c.unwrap_or-end.ensures ∙ ap (λ o. unwrap_or o 0) c.left.ensures in
    let all : c.loop.counter ≡ c.unwrap_or-end.result =
    omega (arith, c.loop-test.false, c.loop.auto) in
    lays_all g.D.Disk c.args.world.now c.loop.world c.loop.counter c.loop.invariant
    (unwrap_or (left_in c.args.world.now) 0) (all ∙ left)
