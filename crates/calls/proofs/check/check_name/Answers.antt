use Rattle.std.proofs.Common.{rules}
use Rattle.calls.proofs.check.check_name.Goals as goal

pub returns-clause-ok : goal.returns-clause-ok
returns-clause-ok c = search rules

pub returns-clause-too_long : goal.returns-clause-too_long
returns-clause-too_long c = search rules
