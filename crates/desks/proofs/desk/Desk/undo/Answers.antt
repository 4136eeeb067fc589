use Rattle.std.proofs.Common.{[], Ok, Err, IfOk, true, false, inr, ap, ◌≡◌, ◌∙◌, subst}
use Rattle.std.proofs.lemmas.Result.{err_from_is_err_and}
use Rattle.group_commit.specs.Lines.{ClientState}
use Rattle.desks.specs.Seen.{Steps}
use Rattle.desks.specs.TakenBack.{back}
use Rattle.desks.proofs.Stepping.{entered_behind, undone_then}
use Rattle.desks.proofs.desk.Desk.undo.Goals as goal

-- one call more is undone
pub loop-at-preserved : goal.loop-at-preserved
loop-at-preserved g c =
    let n = c.args.handle.number in
    let o = g.J.Naming.origin in
    let m = c.back_at.new.me in
    let was = c.loop-at.invariant in
    let step : Steps o c.loop-at.me (back n (Ok true)) m =
    subst (λ k. Steps o k (back n (Ok true)) m) c.in-Ok.ensures.ok
    (subst (λ b. Steps o c.find_newest.new.me (back n (Ok b)) m)
    c.in_ok-back_at-in-Ok.ensures.fewer.0 c.in_ok-back_at-in-Ok.ensures.step) in (
      ap (λ (k : ClientState). k.table) step.0 ∙ was.0,
      entered_behind g.J.Naming c.loop-at.me m [] (back n (Ok true)) n step was.1,
      inr (undone_then g.J.Naming c.args.me.now c.loop-at.me m n (back n (Ok true)) was.2 step),
    )

pub returns-in_err-back_at-in-Ok : goal.returns-in_err-back_at-in-Ok
returns-in_err-back_at-in-Ok g c =
    let p = err_from_is_err_and c.from_residual.result c.from_residual.ensures.1 in
    let n = c.args.handle.number in
    let m = c.back_at.new.me in
    let refused = back n (Err c.in_err-back_at-in-Ok.field-0.0) in
    rw (p.1, p.2) (undone_then g.J.Naming c.args.me.now c.loop-at.me m n refused
    c.loop-at.invariant.2 (subst (λ k. Steps g.J.Naming.origin k refused m) c.in-Ok.ensures.ok
    c.in_err-back_at-in-Ok.ensures.step))

-- none was left, and that is refused
pub returns-in_err-none_left-in-Err : goal.returns-in_err-none_left-in-Err
returns-in_err-none_left-in-Err g c =
    let p = err_from_is_err_and c.from_residual-in_err-none_left-in-Err.result
    c.from_residual-in_err-none_left-in-Err.ensures.1 in
    let n = c.args.handle.number in
    let m = c.find_newest.new.me in
    rw (p.1, p.2) (undone_then g.J.Naming c.args.me.now c.loop-at.me m n
    (back n (Err c.in_err-none_left-in-Err.field-0.0)) c.loop-at.invariant.2
    (subst (λ r. Steps g.J.Naming.origin c.loop-at.me (back n r) m)
    c.in_err-none_left-in-Err.was c.in-Err.ensures.err))

-- or not
pub returns-in-Err : goal.returns-in-Err
returns-in-Err g c =
    let n = c.args.handle.number in
    let m = c.find_newest.new.me in
    let is = c.in_ok-none_left-in-Err.was in
    undone_then g.J.Naming c.args.me.now c.loop-at.me m n (back n (Ok false))
    c.loop-at.invariant.2
    (subst (λ b. Steps g.J.Naming.origin c.loop-at.me (back n (Ok b)) m)
    (subst (λ r. IfOk r (λ undone. undone ≡ false)) is c.in-Err.ensures.none)
    (subst (λ r. Steps g.J.Naming.origin c.loop-at.me (back n r) m) is c.in-Err.ensures.err))
