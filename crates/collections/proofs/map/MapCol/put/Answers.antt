use Rattle.std.proofs.Common.{◌∙◌, ap}
use Rattle.std.specs.FinMap as map
use Rattle.collections.proofs.Tables.{table_of-insert}
use Rattle.collections.proofs.map.MapCol.put.Goals as goal

pub returns-clause-ok : goal.returns-clause-ok
returns-clause-ok c = table_of-insert c.self.inside.values c.insert.new.self _ _
    c.in_ok-insert.ensures.updates ∙ ap (λ m. map.insert m c.args.key c.args.value) c.self.view_is
