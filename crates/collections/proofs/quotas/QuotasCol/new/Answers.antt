use Rattle.collections.proofs.Amounts.{none_below}
use Rattle.collections.proofs.quotas.QuotasCol.new.Goals as goal

pub invariant_of-result : goal.invariant_of-result
invariant_of-result c = none_below c.new.result c.new.ensures.empty
