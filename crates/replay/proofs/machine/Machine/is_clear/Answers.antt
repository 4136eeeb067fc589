use Rattle.std.proofs.Common.{rules}
use Rattle.replay.proofs.machine.Machine.is_clear.Goals as goal

pub returns : goal.returns
returns g c = search rules
