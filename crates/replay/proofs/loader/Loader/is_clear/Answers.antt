use Rattle.std.proofs.Common.{rules}
use Rattle.replay.proofs.loader.Loader.is_clear.Goals as goal

pub returns : goal.returns
returns g c = search rules
