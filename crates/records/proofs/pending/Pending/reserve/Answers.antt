use Rattle.std.proofs.Common.{rules}
use Rattle.records.proofs.pending.Pending.reserve.Goals as goal

pub returns-clause-room : goal.returns-clause-room
returns-clause-room c = search rules
