use Rattle.std.proofs.Common.{rules}
use Rattle.calls.proofs.KindLaws.{disposable_takes_none}
use Rattle.steps.proofs.laters.run_later.Goals as goal

pub unreachable-requires : goal.unreachable-requires
unreachable-requires g c =
    let done = c.run.ensures.no_memory
    (disposable_takes_none c.args.call.now c.requires.can.late.0) in
    search rules
