use Rattle.std.proofs.Common.{rules}
use Rattle.abstract_locks.proofs.table.Hold.blocks.Goals as goal

pub returns-then-self-at : goal.returns-then-self-at
returns-then-self-at c = search rules
