use Rattle.std.proofs.Common.{None, Some, rules}
use Rattle.talks.specs.declared.told.Told.{Told}
use Rattle.talks.proofs.talking.answer.Goals as goal

pub returns-in-TooLong-clause-answered : goal.returns-in-TooLong-clause-answered
returns-in-TooLong-clause-answered g c = (
  Some Told.TooLong,
  None,
  search rules,
  c.tell.ensures,
)
