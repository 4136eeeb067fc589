use Rattle.std.proofs.Common.{rules}
use Rattle.world.proofs.world.mark_after.Goals as goal

pub returns-in-Ok-Kept : goal.returns-in-Ok-Kept
returns-in-Ok-Kept c = search rules
