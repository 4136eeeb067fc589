use Rattle.std.proofs.Common.{rules}
use Rattle.collections.proofs.counter.CounterCol.fits.Goals as goal

pub returns-in-Bump-Done : goal.returns-in-Bump-Done
returns-in-Bump-Done c = search rules
