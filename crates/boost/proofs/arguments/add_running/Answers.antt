use Rattle.std.proofs.Common.{refl}
use Rattle.std.proofs.lemmas.Result.{IfOk-weaker}
use Rattle.clap.specs.Words.{app_of}
use Rattle.boost.proofs.ArgumentCommands.{with_gives}
use Rattle.boost.proofs.arguments.add_running.Goals as goal

pub returns : goal.returns
returns c =
    let is_1 = with_gives c.format_command-format.result _ (app_of c.args.program) _ _
    c.format_command-format.ensures c.in_ok-program.ensures refl in
    let is_2 = with_gives c.script_command-play.result _ _ _ _
    c.script_command-play.ensures c.in_ok-program-2.ensures is_1 in
    let is_3 = with_gives c.serve_command.result _ _ _ _
    c.serve_command.ensures c.in_ok-program-3.ensures is_2 in
    IfOk-weaker c.with-4.result _ _
    (λ whole h. with_gives c.listen_command.result _ _ _ _ c.listen_command.ensures h is_3)
    c.with-4.ensures
