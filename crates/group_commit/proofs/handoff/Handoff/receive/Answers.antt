use Rattle.std.proofs.Common.{rules}
use Rattle.group_commit.proofs.Handing.{receives, shows_receiver}
use Rattle.group_commit.proofs.handoff.Handoff.receive.Goals as goal

pub pop_as-requires-clause-rule : goal.pop_as-requires-clause-rule
pop_as-requires-clause-rule g c =
    let is = c.receiver.invariant.1 in (receives _ _ is, shows_receiver _ _ is)

pub returns-clause-none : goal.returns-clause-none
returns-clause-none g c = search rules
