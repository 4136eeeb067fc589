use Rattle.std.proofs.Common.{sym, ◌∙◌, ap}
use Rattle.catalog.specs.Holdings.{content_of, filled}
use Rattle.catalog.proofs.Orders.{filled-push}
use Rattle.catalog.proofs.holding.Holding.of_items.Goals as goal

pub loop-item-preserved : goal.loop-item-preserved
loop-item-preserved c =
    ap (λ k. filled k c.pop.new.self.items) c.in_ok-put.ensures.ok
    ∙ sym (filled-push (content_of c.loop-item.holding) c.pop.new.self.items c.in-Some.item)
    ∙ ap (filled (content_of c.loop-item.holding)) (sym c.in-Some.ensures.items)
    ∙ c.loop-item.invariant
