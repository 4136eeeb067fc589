use Rattle.std.proofs.Common.{rules}
use Rattle.group_commit.proofs.ends.OutgoingOutbox.offer.Goals as goal

pub returns-clause-sent : goal.returns-clause-sent
returns-clause-sent g c = search rules
