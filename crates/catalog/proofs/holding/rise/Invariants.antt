use Rattle.std.specs.Prelude.{◌↔◌}
use Rattle.std.proofs.Common.{drop}
use Rattle.catalog.specs.Holdings.{Rise}
use Rattle.catalog.proofs.holding.rise.Given as goal

abbrev pub invariant-loop-item : goal.invariant-loop-item
invariant-loop-item l = Rise l.kind l.last (drop l.item-index l.rest) ↔ Rise l.kind l.first l.rest
