use Rattle.std.proofs.Common.{arith}
use Rattle.std.proofs.lemmas.Result.{err_from_is_err_and}
use Rattle.catalog.specs.Woven.{names_in}
use Rattle.recovery.specs.Edits.{RefusesEdit}
use Rattle.recovery.specs.Kept.{kept_names, Refuses}
use Rattle.recovery.proofs.EditLemmas.{or_weaker, refuses_at, keeps_more, keeps_all}
use Rattle.recovery.proofs.editing.keep.Goals as goal

pub returns-in_err-make-clause-refused : goal.returns-in_err-make-clause-refused
returns-in_err-make-clause-refused c =
    let p = err_from_is_err_and c.from_residual-in_err-make.result
    c.from_residual-in_err-make.ensures.1 in
    let names = names_in c.args.names.now in
    let kept = c.loop-edit.kept.items in
    rw (p.1, p.2)
    (or_weaker (RefusesEdit c.edit-item.result (kept_names kept)) (Refuses c.args.edits.now names)
    (λ e refused. refuses_at c.args.edits.now c.edit-item.result c.loop-edit.edit-index names kept e
    c.loop-edit-test.true c.edit-item.is c.loop-edit.invariant.0 refused)
    c.in_err-make.field-0.0 c.in_err-make.ensures.refused)

pub loop-edit-preserved : goal.loop-edit-preserved
loop-edit-preserved c = (
  keeps_more c.args.edits.now c.edit-item.result c.loop-edit.edit-index (names_in c.args.names.now)
      c.loop-edit.kept.items c.make.new.kept.items c.loop-edit-test.true c.edit-item.is
      c.loop-edit.invariant.0 c.in_ok-make.ensures.can c.in_ok-make.ensures.made,
  c.in_ok-make.ensures.good,
  c.in_ok-make.ensures.distinct,
)

pub returns-clause-kept : goal.returns-clause-kept
returns-clause-kept c = keeps_all c.args.edits.now c.loop-edit.edit-index
    (names_in c.args.names.now) c.loop-edit.kept.items
    (omega (arith, c.loop-edit-test.false)) c.loop-edit.invariant.0
