use Rattle.std.proofs.Common.{◌∙◌, subst}
use Rattle.catalog.specs.Making.{AreDistinct}
use Rattle.catalog.proofs.Whole.{names_seen, count_seen}
use Rattle.catalog.proofs.catalog.Catalog.len.Goals as goal

pub returns-clause-len : goal.returns-clause-len
returns-clause-len c = c.count.ensures.len ∙
    count_seen c.self.inside.names c.self.inside.shelves c.self.invariant c.args.self.now
    c.self.view_is

pub returns-clause-distinct : goal.returns-clause-distinct
returns-clause-distinct c = subst AreDistinct
    (names_seen c.self.inside.names c.self.inside.shelves c.self.invariant c.args.self.now
    c.self.view_is) c.count.ensures.distinct
