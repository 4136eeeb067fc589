use Rattle.std.proofs.Common.{rules}
use Rattle.boost.proofs.commands.report.Goals as goal

pub returns-clause-silent : goal.returns-clause-silent
returns-clause-silent g c = search rules
