use Rattle.std.proofs.Common.{rules}
use Rattle.collections.proofs.map.MapCol.fits.Goals as goal

pub returns-in-Put-Nothing : goal.returns-in-Put-Nothing
returns-in-Put-Nothing c = search rules
