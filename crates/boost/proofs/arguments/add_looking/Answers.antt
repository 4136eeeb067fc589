use Rattle.std.proofs.Common.{refl}
use Rattle.std.proofs.lemmas.Result.{IfOk-weaker}
use Rattle.clap.specs.Words.{app_of}
use Rattle.boost.proofs.ArgumentCommands.{with_gives}
use Rattle.boost.proofs.arguments.add_looking.Goals as goal

pub returns : goal.returns
returns c =
    let is_1 = with_gives c.flagged_command.result _ (app_of c.args.program) _ _
    c.flagged_command.ensures c.in_ok-program.ensures refl in
    let is_2 = with_gives c.disk_command.result _ _ _ _
    c.disk_command.ensures c.in_ok-program-2.ensures is_1 in
    IfOk-weaker c.with-3.result _ _
    (λ whole h. with_gives c.flagged_command-2.result _ _ _ _ c.flagged_command-2.ensures h is_2)
    c.with-3.ensures
