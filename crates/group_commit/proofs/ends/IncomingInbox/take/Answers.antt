use Rattle.std.proofs.Common.{rules}
use Rattle.group_commit.proofs.ends.IncomingInbox.take.Goals as goal

pub returns-clause-none : goal.returns-clause-none
returns-clause-none g c = search rules
