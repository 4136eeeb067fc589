use Rattle.std.proofs.Common.{rules}
use Rattle.collections.proofs.queue.QueueCol.look.Goals as goal

pub returns-in-Take : goal.returns-in-Take
returns-in-Take c = search rules
