use Rattle.std.proofs.Common.{rules}
use Rattle.boosted.proofs.map.MapColBoosted.look.Goals as goal

pub returns-clause-ok : goal.returns-clause-ok
returns-clause-ok c = search rules
