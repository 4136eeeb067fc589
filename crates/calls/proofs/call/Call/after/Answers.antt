use Rattle.std.proofs.Common.{rules}
use Rattle.calls.proofs.call.Call.after.Goals as goal

pub returns-in-Release-Queued : goal.returns-in-Release-Queued
returns-in-Release-Queued c = search rules
