use Rattle.std.proofs.Common.{rules}
use Rattle.calls.proofs.call.Call.is_disposable.Goals as goal

pub returns-in_default : goal.returns-in_default
returns-in_default c = search rules
