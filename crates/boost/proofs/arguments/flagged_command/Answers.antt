use Rattle.std.proofs.lemmas.Result.{IfOk-weaker}
use Rattle.boost.proofs.ArgumentCommands.{adds}
use Rattle.boost.proofs.arguments.flagged_command.Goals as goal

pub returns : goal.returns
returns c =
    IfOk-weaker c.arg.result _ _
    (λ whole h. adds _ whole _ _ _ h c.in_ok-disk_command.ensures
    c.flag.ensures.rule c.flag.ensures.alone)
    c.arg.ensures
