use Rattle.std.proofs.Common.{rules}
use Rattle.calls.proofs.call.Call.plain_inverse.Goals as goal

pub returns-in-Bump-Done : goal.returns-in-Bump-Done
returns-in-Bump-Done c = search rules
