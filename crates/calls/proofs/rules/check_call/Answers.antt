use Rattle.std.proofs.Common.{rules}
use Rattle.calls.proofs.rules.check_call.Goals as goal

pub returns-in_default-4 : goal.returns-in_default-4
returns-in_default-4 c = search rules
