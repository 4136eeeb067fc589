use Rattle.std.proofs.Common.{Ok, Err, false, inl, inr, refl, ap, ◌∙◌}
use Rattle.std.proofs.lemmas.Result.{err_from_is_err_and}
use Rattle.txn.specs.declared.actions.Action.{Action}
use Rattle.group_commit.specs.Lines.{ClientState}
use Rattle.desks.specs.TakenBack.{back, backs}
use Rattle.desks.proofs.Stepping.{entered_behind, steps_next}
use Rattle.desks.proofs.desk.Desk.abort.Goals as goal

pub ended-requires-clause-line : goal.ended-requires-clause-line
ended-requires-clause-line g c =
    ap (λ (k : ClientState). k.table) c.in_ok-undo.ensures.1.0 ∙ c.requires.line

pub ended-requires-clause-own : goal.ended-requires-clause-own
ended-requires-clause-own g c =
    let n = c.args.handle.number in
    entered_behind g.J.Naming c.args.me.now c.undo.new.me (backs n c.in_ok-undo.ensures.0)
    (back n (Ok false)) n c.in_ok-undo.ensures.1 c.requires.own

pub returns : goal.returns
returns g c =
    let n = c.args.handle.number in
    let undone = c.in_ok-undo.ensures in (
      undone.0,
      inl (steps_next g.J.Naming c.args.me.now c.undo.new.me c.ended.new.me (backs n undone.0)
          (back n (Ok false)) (Action.Ended n c.ended.result) undone.1 c.ended.ensures),
    )

pub returns-in_err-undo : goal.returns-in_err-undo
returns-in_err-undo g c =
    let p = err_from_is_err_and c.from_residual.result c.from_residual.ensures.1 in
    let so = c.in_err-undo.ensures in
    rw (p.1, p.2) (so.0, inr (c.in_err-undo.field-0.0, refl, so.1))
