use Rattle.std.proofs.Common.{rules}
use Rattle.calls.proofs.call.Call.kind.Goals as goal

pub returns-in-QueueAdd : goal.returns-in-QueueAdd
returns-in-QueueAdd c = search rules

pub returns-in-QueueAdd-2 : goal.returns-in-QueueAdd-2
returns-in-QueueAdd-2 c = search rules

pub returns-in-QueueAdd-3 : goal.returns-in-QueueAdd-3
returns-in-QueueAdd-3 c = search rules

pub returns-in-QueueAdd-4 : goal.returns-in-QueueAdd-4
returns-in-QueueAdd-4 c = search rules
