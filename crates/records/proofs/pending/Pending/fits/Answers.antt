use Rattle.std.proofs.Common.{arith}
use Rattle.records.proofs.PendingLemmas.{last_fits}
use Rattle.records.proofs.pending.Pending.fits.Goals as goal

pub overflow_add-result : goal.overflow_add-result
overflow_add-result c = omega (
  arith,
  c.len.ensures,
  c.requires,
  last_fits c.self.inside.full.items c.self.inside.last.records c.self.invariant.packed,
)
