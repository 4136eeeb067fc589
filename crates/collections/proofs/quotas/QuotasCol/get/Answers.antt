use Rattle.std.proofs.Common.{sym, ◌∙◌, ap, subst, ◌^◌}
use Rattle.std.specs.FinMap as map
use Rattle.calls.specs.Quotas.{AreBelow}
use Rattle.collections.proofs.Tables.{get-table_of}
use Rattle.collections.proofs.quotas.QuotasCol.get.Goals as goal

pub returns-clause-value : goal.returns-clause-value
returns-clause-value c =
    c.get.ensures.value
    ∙ sym (get-table_of c.self.inside.less_one c.args.key)
    ∙ ap (λ m. map.get m c.args.key) c.self.view_is

pub returns-clause-below : goal.returns-clause-below
returns-clause-below c = subst (AreBelow (2 ^ 127)) c.self.view_is c.self.invariant
