use Rattle.std.proofs.Common.{rules}
use Rattle.checkpoint.proofs.laying.other_area.Goals as goal

pub returns : goal.returns
returns c = search rules
