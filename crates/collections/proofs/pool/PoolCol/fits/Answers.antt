use Rattle.std.proofs.Common.{rules}
use Rattle.collections.proofs.pool.PoolCol.fits.Goals as goal

pub returns-in-Draw-Id : goal.returns-in-Draw-Id
returns-in-Draw-Id c = search rules
