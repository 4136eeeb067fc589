use Rattle.std.proofs.Common.{rules}
use Rattle.collections.proofs.counter.CounterCol.look.Goals as goal

pub returns-in-Read : goal.returns-in-Read
returns-in-Read c = search rules
