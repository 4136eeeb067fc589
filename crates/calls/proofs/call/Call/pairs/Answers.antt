use Rattle.std.proofs.Common.{rules}
use Rattle.calls.proofs.call.Call.pairs.Goals as goal

pub returns-in-Read-Total : goal.returns-in-Read-Total
returns-in-Read-Total c = search rules
