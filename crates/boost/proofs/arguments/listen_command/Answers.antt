use Rattle.std.proofs.lemmas.Result.{IfOk-weaker}
use Rattle.boost.proofs.ArgumentCommands.{adds}
use Rattle.boost.proofs.arguments.listen_command.Goals as goal

pub returns : goal.returns
returns c =
    IfOk-weaker c.arg-4.result _ _
    (λ whole h. adds _ whole _ _ _ h (adds _ _ _ _ _ c.in_ok-arg-3.ensures
    (adds _ _ _ _ _ c.in_ok-arg-2.ensures
    (adds _ _ _ _ _ c.in_ok-arg.ensures
    c.in_ok-disk_command.ensures c.folder.ensures.rule c.folder.ensures.alone)
    c.idle.ensures.rule c.idle.ensures.alone)
    c.flag.ensures.rule c.flag.ensures.alone)
    c.flag-2.ensures.rule c.flag-2.ensures.alone)
    c.arg-4.ensures
