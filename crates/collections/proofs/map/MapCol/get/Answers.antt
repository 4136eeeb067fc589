use Rattle.std.proofs.Common.{sym, ◌∙◌, ap}
use Rattle.std.specs.FinMap as map
use Rattle.collections.proofs.Tables.{get-table_of}
use Rattle.collections.proofs.map.MapCol.get.Goals as goal

pub returns : goal.returns
returns c =
    c.get.ensures.value
    ∙ sym (get-table_of c.self.inside.values c.args.key)
    ∙ ap (λ m. map.get m c.args.key) c.self.view_is
