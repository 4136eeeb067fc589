use Rattle.std.proofs.Common.{rules}
use Rattle.collections.proofs.map.MapCol.look.Goals as goal

pub returns-in_ok-ceiling_of-in-Ceiling-clause-ok : goal.returns-in_ok-ceiling_of-in-Ceiling-clause-ok
returns-in_ok-ceiling_of-in-Ceiling-clause-ok c = search rules
