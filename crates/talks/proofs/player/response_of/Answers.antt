use Rattle.std.proofs.Common.{rules}
use Rattle.talks.proofs.player.response_of.Goals as goal

pub returns-in-Some-true : goal.returns-in-Some-true
returns-in-Some-true c = search rules
