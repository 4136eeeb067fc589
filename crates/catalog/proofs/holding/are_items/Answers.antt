use Rattle.catalog.proofs.Orders.{items_from_order, order_from_items}
use Rattle.catalog.proofs.holding.are_items.Goals as goal

pub returns : goal.returns
returns c = (
  λ t. items_from_order c.args.kind c.args.items.now (c.are_in_order.ensures.0 t),
  λ k. c.are_in_order.ensures.1 (order_from_items c.args.kind c.args.items.now k),
)
