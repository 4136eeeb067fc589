use Rattle.std.proofs.Common.{rules}
use Rattle.boost.proofs.arguments.path.Goals as goal

pub returns-clause-rule : goal.returns-clause-rule
returns-clause-rule c = rw (c.help.ensures, c.action.ensures, c.required.ensures) (search rules)

pub returns-clause-alone : goal.returns-clause-alone
returns-clause-alone c = rw (c.help.ensures, c.action.ensures, c.required.ensures) (search rules)
