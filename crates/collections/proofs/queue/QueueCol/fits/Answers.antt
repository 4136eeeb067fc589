use Rattle.std.proofs.Common.{rules}
use Rattle.collections.proofs.queue.QueueCol.fits.Goals as goal

pub returns-in-Pluck-Done : goal.returns-in-Pluck-Done
returns-in-Pluck-Done c = search rules
