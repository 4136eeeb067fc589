use Rattle.std.proofs.Common.{rules}
use Rattle.catalog.proofs.holding.is_item_of.Goals as goal

pub returns-in-Stock-Number : goal.returns-in-Stock-Number
returns-in-Stock-Number c = search rules
