use Rattle.std.proofs.Common.{rules}
use Rattle.calls.proofs.call.Call.is_deferrable.Goals as goal

pub returns-in-Bump : goal.returns-in-Bump
returns-in-Bump c = search rules
