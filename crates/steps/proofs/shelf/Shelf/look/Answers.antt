use Rattle.std.proofs.Common.{rules}
use Rattle.steps.proofs.shelf.Shelf.look.Goals as goal

pub returns : goal.returns
returns g c = search rules
