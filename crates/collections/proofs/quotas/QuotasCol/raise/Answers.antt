use Rattle.std.proofs.Common.{◌+◌, refl, arith}
use Rattle.calls.specs.Quotas.{level}
use Rattle.calls.proofs.QuotaPoints.{level_at}
use Rattle.collections.proofs.quotas.QuotasCol.raise.Goals as goal

pub put-requires : goal.put-requires
put-requires c =
    let below = c.requires c.args.key in
    let here = level_at c.args.self.now c.args.key
    (level c.args.self.now c.args.key + c.args.amount) c.args.key refl in
    omega (arith, below, here, c.level.ensures.level, c.from.ensures)
