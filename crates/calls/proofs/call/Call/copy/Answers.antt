use Rattle.std.proofs.Common.{rules}
use Rattle.calls.proofs.call.Call.copy.Goals as goal

pub returns-in-SetAdd : goal.returns-in-SetAdd
returns-in-SetAdd c = search rules
