use Rattle.std.proofs.Common.{refl}
use Rattle.std.proofs.lemmas.Result.{IfOk-weaker}
use Rattle.clap.specs.Words.{app_of}
use Rattle.boost.proofs.ArgumentCommands.{with_gives}
use Rattle.boost.proofs.arguments.add_changing.Goals as goal

pub returns : goal.returns
returns c =
    let is_1 = with_gives c.copy_command.result _ (app_of c.args.program) _ _
    c.copy_command.ensures c.in_ok-program.ensures refl in
    let is_2 = with_gives c.disk_command.result _ _ _ _
    c.disk_command.ensures c.in_ok-program-2.ensures is_1 in
    IfOk-weaker c.with-3.result _ _
    (λ whole h. with_gives c.lint_command.result _ _ _ _ c.lint_command.ensures h is_2)
    c.with-3.ensures
