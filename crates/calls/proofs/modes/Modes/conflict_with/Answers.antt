use Rattle.std.proofs.Common.{rules}
use Rattle.calls.proofs.modes.Modes.conflict_with.Goals as goal

pub returns-else-self-12 : goal.returns-else-self-12
returns-else-self-12 c = search rules
