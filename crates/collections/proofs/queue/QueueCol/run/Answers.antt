use Rattle.std.proofs.Common.{rules}
use Rattle.collections.proofs.queue.QueueCol.run.Goals as goal

pub returns-in-QueueAdd-default-clause-ok : goal.returns-in-QueueAdd-default-clause-ok
returns-in-QueueAdd-default-clause-ok c = search rules
