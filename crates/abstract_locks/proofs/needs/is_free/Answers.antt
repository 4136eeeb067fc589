use Rattle.std.proofs.Common.{arith}
use Rattle.std.proofs.lemmas.Grind.{common_steps}
use Rattle.abstract_locks.proofs.needs.is_free.Goals as goal

pub returns-then-segments-eq1 : goal.returns-then-segments-eq1
returns-then-segments-eq1 c = grind (arith, common_steps)
