use Rattle.std.proofs.Common.{rules}
use Rattle.collections.proofs.stock.StockCol.look.Goals as goal

pub returns-in-Spend : goal.returns-in-Spend
returns-in-Spend c = search rules
