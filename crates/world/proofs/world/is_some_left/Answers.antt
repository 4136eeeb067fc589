use Rattle.std.proofs.Common.{rules}
use Rattle.world.proofs.world.is_some_left.Goals as goal

pub returns-in-Some : goal.returns-in-Some
returns-in-Some c = search rules
