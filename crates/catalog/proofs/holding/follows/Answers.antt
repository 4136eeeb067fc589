use Rattle.catalog.proofs.Orders.{follows_nothing, follows_at_end}
use Rattle.catalog.proofs.holding.follows.Goals as goal

pub returns-in-None : goal.returns-in-None
returns-in-None c =
    let same = follows_nothing c.args.kind c.args.items.now c.args.item.now
    c.in-None.ensures.item.0 in
    let said = c.is_item_of.ensures in
    (λ t. same.0 (said.0 t), λ f. said.1 (same.1 f))

pub returns-in-Some : goal.returns-in-Some
returns-in-Some c =
    let looked = c.in-Some.ensures.item in
    let same = follows_at_end c.args.kind c.args.items.now c.in-Some.last.now c.args.item.now
    looked.3.0 looked.3.1 c.requires in
    let said = c.precedes.ensures in
    (λ t. same.0 (said.0 t), λ f. said.1 (same.1 f))
