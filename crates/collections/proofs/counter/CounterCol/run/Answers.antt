use Rattle.std.proofs.Common.{rules}
use Rattle.collections.proofs.counter.CounterCol.run.Goals as goal

pub returns-in-Bump-clause-content : goal.returns-in-Bump-clause-content
returns-in-Bump-clause-content c = search rules
