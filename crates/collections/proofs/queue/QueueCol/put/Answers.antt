use Rattle.std.proofs.Common.{◌∷◌, ◌∙◌, ap}
use Rattle.calls.specs.Bags.{add}
use Rattle.collections.specs.Holders.{live}
use Rattle.collections.proofs.Holders.{bag_of-reordered, kept_more}
use Rattle.collections.proofs.queue.QueueCol.put.Goals as goal

pub invariant_of-self-2 : goal.invariant_of-self-2
invariant_of-self-2 c =
    kept_more c.self.inside.holders.items c.push.new.holders.items c.self.inside.marked
    c.args.priority c.args.tag c.in_ok-push.ensures.added c.in_ok-push.ensures.order
    c.in_ok-push.ensures.root
    c.self.invariant

pub returns-clause-ok : goal.returns-clause-ok
returns-clause-ok c =
    bag_of-reordered (live c.args.priority c.args.tag ∷ c.self.inside.holders.items)
    c.push.new.holders.items c.in_ok-push.ensures.added ∙
    ap (λ b. add b (c.args.priority, c.args.tag)) c.self.view_is
