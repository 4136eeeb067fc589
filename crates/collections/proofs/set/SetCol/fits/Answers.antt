use Rattle.std.proofs.Common.{rules}
use Rattle.collections.proofs.set.SetCol.fits.Goals as goal

pub returns-in-SetAdd-Yes : goal.returns-in-SetAdd-Yes
returns-in-SetAdd-Yes c = search rules
