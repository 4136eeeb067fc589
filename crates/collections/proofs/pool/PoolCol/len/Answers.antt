use Rattle.std.proofs.Common.{sym, ◌∙◌, ap}
use Rattle.std.specs.FinSet as sets
use Rattle.collections.proofs.Sizes.{len-rising}
use Rattle.collections.proofs.pool.PoolCol.len.Goals as goal

pub returns : goal.returns
returns c = c.len.ensures.len ∙ sym (len-rising c.self.inside.taken.keys c.len.ensures.ordered) ∙
    ap sets.len c.self.view_is
