use Rattle.std.proofs.Common.{rules}
use Rattle.std.proofs.lemmas.Result.{err_from_is_err_and}
use Rattle.replay.proofs.RepeatLemmas.{damage_weaker}
use Rattle.replay.proofs.repetition.Repetition.take.Goals as goal

pub returns-clause-ok : goal.returns-clause-ok
returns-clause-ok c = search rules

pub returns-in_err-stage-clause-err : goal.returns-in_err-stage-clause-err
returns-in_err-stage-clause-err c =
    let p = err_from_is_err_and c.from_residual.result c.from_residual.ensures.1 in
    rw (p.1, p.2)
    (damage_weaker c.args.place c.in_err-stage.field-0.0 _ _ (λ none. none c.args.self.next)
    c.in_err-stage.ensures.err)
