use Rattle.catalog.proofs.Entries.{names_distinct}
use Rattle.catalog.proofs.names.NamesNamed.count.Goals as goal

pub returns-clause-distinct : goal.returns-clause-distinct
returns-clause-distinct c = rw (← c.self.view_is)
    (names_distinct c.self.inside.kinds.entries c.len.ensures.unique)
