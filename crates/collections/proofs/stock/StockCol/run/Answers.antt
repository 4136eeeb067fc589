use Rattle.std.proofs.Common.{rules}
use Rattle.collections.proofs.stock.StockCol.run.Goals as goal

pub returns-in-Fill-default-clause-content : goal.returns-in-Fill-default-clause-content
returns-in-Fill-default-clause-content c = search rules
