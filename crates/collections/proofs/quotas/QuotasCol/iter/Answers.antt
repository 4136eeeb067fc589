use Rattle.std.proofs.Common.{◌+◌, ◌<◌, ◌^◌, refl, sym, subst}
use Rattle.std.specs.List.{AllByRecursion}
use Rattle.collections.proofs.Tables.{table_of}
use Rattle.collections.proofs.Amounts.{entries_below}
use Rattle.collections.proofs.quotas.QuotasCol.iter.Goals as goal

pub returns-clause-below : goal.returns-clause-below
returns-clause-below c =
    let tree = c.self.inside.less_one in
    subst (AllByRecursion (λ e. e.1 + 1 < 2 ^ 127)) (sym c.iter.ensures.rest)
    (entries_below (2 ^ 127) (table_of tree) tree.entries c.iter.ensures.ordered refl
    c.self.invariant)
