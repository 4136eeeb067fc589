use Rattle.std.proofs.Common.{rules}
use Rattle.calls.proofs.call.Call.undone_by.Goals as goal

pub returns-in-SetAdd-Yes-clause-ok : goal.returns-in-SetAdd-Yes-clause-ok
returns-in-SetAdd-Yes-clause-ok c = search rules
