use Rattle.std.proofs.Common.{rules}
use Rattle.abstract_locks.proofs.needs.Needs.reserve.Goals as goal

pub returns-in_ok-new-clause-room : goal.returns-in_ok-new-clause-room
returns-in_ok-new-clause-room c = search rules

pub returns-else-is_none-clause-room : goal.returns-else-is_none-clause-room
returns-else-is_none-clause-room c = search rules
