use Rattle.std.proofs.Common.{◌≡◌, ◌∙◌, true, rules, ap, subst, ◌∷◌, ◌++◌, []}
use Rattle.calls.specs.Contents.{empty}
use Rattle.catalog.specs.Holdings.{AreInOrder, filled}
use Rattle.catalog.proofs.Orders.{kind_filled, in_order_lists, order_from_items}
use Rattle.catalog.proofs.catalog.Catalog.load.Goals as goal

pub returns-clause-loads : goal.returns-clause-loads
returns-clause-loads c _ =
    let tested : c.are_items.result ≡ true = search rules in
    let order : AreInOrder c.args.kind c.args.items.items =
    subst (AreInOrder c.args.kind) c.deref.ensures.value
    (order_from_items c.args.kind c.deref.result.now (c.are_items.ensures.0 tested)) in
    record {
      content = filled (empty c.args.kind) c.args.items.items;
      of_kind = kind_filled c.args.kind c.args.items.items;
      lists = in_order_lists c.args.kind c.args.items.items order;
      is = c.in_ok-add.ensures.ok ∙ ap
          (λ k. c.args.self.now ++ record { name = c.args.name.now; content = k } ∷ [])
          c.in_ok-holding.ensures.ok;
    }
