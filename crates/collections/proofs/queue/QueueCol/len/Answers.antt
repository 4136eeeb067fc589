use Rattle.collections.proofs.Sizes.{size_of_kept}
use Rattle.collections.proofs.queue.QueueCol.len.Goals as goal

pub returns : goal.returns
returns c = rw c.as_slice.ensures.value (size_of_kept c.self.inside.holders.items
    c.self.inside.marked c.args.self.now c.self.invariant.marks c.self.view_is)
