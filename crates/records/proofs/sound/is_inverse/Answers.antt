use Rattle.std.proofs.Common.{rules}
use Rattle.records.proofs.sound.is_inverse.Goals as goal

pub returns-clause-is : goal.returns-clause-is
returns-clause-is c = search rules
