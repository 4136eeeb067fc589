use Rattle.std.proofs.Common.{rules}
use Rattle.calls.proofs.need.Need.conflicts.Goals as goal

pub returns-else-other-self : goal.returns-else-other-self
returns-else-other-self c = search rules
