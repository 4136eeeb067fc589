use Rattle.std.proofs.Common.{◌∙◌, ap}
use Rattle.std.specs.FinMap as map
use Rattle.collections.proofs.Tables.{table_of-insert, table_of-remove}
use Rattle.collections.proofs.map.MapCol.run.Goals as goal

pub returns-in_ok-insert-in-Put-default-clause-ok :
    goal.returns-in_ok-insert-in-Put-default-clause-ok
returns-in_ok-insert-in-Put-default-clause-ok c =
    rw c.in-Put-default.is-0
    (table_of-insert c.self.inside.values c.insert.new.self _ _
    c.in_ok-insert-in-Put-default.ensures.updates
    ∙ ap (λ m. map.insert m c.in-Put-default.key c.in_ok-clone-in-Put-default.field-0) c.self.view_is
    ∙ ap (map.insert c.args.self.now c.in-Put-default.key) c.in_ok-clone-in-Put-default.ensures.cases)

pub returns-in-MapRemove-Value-clause-ok : goal.returns-in-MapRemove-Value-clause-ok
returns-in-MapRemove-Value-clause-ok c =
    rw (c.in-MapRemove-Value.is-0, c.in-MapRemove-Value.is-1)
    (table_of-remove c.self.inside.values c.remove.new.self _ c.remove.ensures.updates
    ∙ ap (λ m. map.remove m c.in-MapRemove-Value.key) c.self.view_is)
