use Rattle.std.proofs.Common.{sym, ◌∙◌, ap}
use Rattle.std.specs.FinMap as maps
use Rattle.collections.proofs.Sizes.{len-entries_rising}
use Rattle.collections.proofs.quotas.QuotasCol.len.Goals as goal

pub returns : goal.returns
returns c = c.len.ensures.len ∙
    sym (len-entries_rising c.self.inside.less_one.entries c.len.ensures.ordered) ∙
    ap maps.len c.self.view_is
