use Rattle.std.proofs.Common.{Some, rules}
use Rattle.talks.specs.declared.told.Told.{Told}
use Rattle.talks.proofs.talking.turn_away.Goals as goal

pub returns-clause-answered : goal.returns-clause-answered
returns-clause-answered g c = (Some Told.Idle, search rules, c.tell-2.ensures)
