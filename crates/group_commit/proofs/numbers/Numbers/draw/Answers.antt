use Rattle.std.proofs.Common.{arith}
use Rattle.std.proofs.lemmas.Grind.{common_steps}
use Rattle.group_commit.proofs.numbers.Numbers.draw.Goals as goal

pub invariant_of-drawer : goal.invariant_of-drawer
invariant_of-drawer c = grind (arith, common_steps)
