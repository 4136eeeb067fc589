use Rattle.std.proofs.Common.{rules}
use Rattle.calls.proofs.call.Call.need.Goals as goal

pub returns-in-Ceiling-Entry : goal.returns-in-Ceiling-Entry
returns-in-Ceiling-Entry c = search rules

pub returns-in-Spend-No : goal.returns-in-Spend-No
returns-in-Spend-No c = search rules
