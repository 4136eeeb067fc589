use Rattle.std.proofs.Common.{◌≡◌, vec_len}
use Rattle.calls.specs.Contents.{empty}
use Rattle.catalog.specs.Holdings.{content_of, filled}
use Rattle.catalog.proofs.holding.Holding.of_items.Given as goal

abbrev pub invariant-loop-item : goal.invariant-loop-item
invariant-loop-item l = filled (content_of l.holding) l.items.items ≡
    filled (empty l.fn.kind) l.fn.items.items

abbrev pub decreases-loop-item : goal.decreases-loop-item
decreases-loop-item l = vec_len l.items
