use Rattle.std.proofs.Common.{rules}
use Rattle.boost.proofs.commands.failure.Failure.status.Goals as goal

pub returns-in-NotUnderstood : goal.returns-in-NotUnderstood
returns-in-NotUnderstood c = search rules
