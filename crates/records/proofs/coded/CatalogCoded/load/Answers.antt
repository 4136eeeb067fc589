use Rattle.std.proofs.Common.{rules}
use Rattle.records.proofs.coded.CatalogCoded.load.Goals as goal

pub returns-clause-loads : goal.returns-clause-loads
returns-clause-loads c = search rules
