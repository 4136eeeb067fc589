use Rattle.std.proofs.Common.{rules}
use Rattle.checkpoint.proofs.keeper.Keeper.pick.Goals as goal

pub returns-clause-answer : goal.returns-clause-answer
returns-clause-answer g c = search rules
