use Rattle.std.proofs.Common.{sym, ◌∙◌, ap}
use Rattle.std.specs.FinSet as set
use Rattle.collections.proofs.Trees.{contains-set_of}
use Rattle.collections.proofs.pool.PoolCol.has.Goals as goal

pub returns : goal.returns
returns c =
    c.contains.ensures
    ∙ sym (contains-set_of c.self.inside.taken c.args.x)
    ∙ ap (λ s. set.contains s c.args.x) c.self.view_is
