use Rattle.std.proofs.Common.{rules}
use Rattle.group_commit.proofs.Handing.{sends, shows_sender}
use Rattle.group_commit.proofs.handoff.Handoff.send.Goals as goal

pub push_as-requires-clause-rule : goal.push_as-requires-clause-rule
push_as-requires-clause-rule g c =
    let is = c.sender.invariant.1 in rw c.self.invariant (sends _ _ _ is, shows_sender _ _ is)

pub returns-clause-sent : goal.returns-clause-sent
returns-clause-sent g c = search rules
