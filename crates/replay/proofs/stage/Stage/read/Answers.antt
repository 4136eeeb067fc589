use Rattle.std.proofs.Common.{sym, subst}
use Rattle.std.specs.Result.{IfErr}
use Rattle.replay.specs.Repetitions.{IsDamageOr, IsNoStep}
use Rattle.replay.proofs.stage.Stage.read.Goals as goal

pub returns-in-Unread-clause-err : goal.returns-in-Unread-clause-err
returns-in-Unread-clause-err c =
    subst (λ s. IfErr c.read_marks.result (IsDamageOr c.args.place (IsNoStep s c.args.entry)))
    (sym c.in-Unread.is) c.read_marks.ensures.err

pub returns-in-Collections-clause-err : goal.returns-in-Collections-clause-err
returns-in-Collections-clause-err c =
    subst (λ s. IfErr c.read.result (IsDamageOr c.args.place (IsNoStep s c.args.entry)))
    (sym c.in-Collections.is) c.read.ensures.err

pub returns-in-Calls-clause-err : goal.returns-in-Calls-clause-err
returns-in-Calls-clause-err c =
    subst (λ s. IfErr c.read_asked.result (IsDamageOr c.args.place (IsNoStep s c.args.entry)))
    (sym c.in-Calls.is) c.read_asked.ensures.err

pub returns-in-Journal-clause-err : goal.returns-in-Journal-clause-err
returns-in-Journal-clause-err c =
    subst (λ s. IfErr c.repeat.result (IsDamageOr c.args.place (IsNoStep s c.args.entry)))
    (sym c.in-Journal.is) c.repeat.ensures.err
