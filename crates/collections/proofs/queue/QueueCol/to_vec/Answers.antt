use Rattle.std.proofs.Common.{◌∙◌, ap}
use Rattle.collections.specs.Holders.{bag_of}
use Rattle.collections.specs.Items.{bag_from}
use Rattle.collections.proofs.Holders.{bag_from-reordered, bag_from-live_pairs}
use Rattle.collections.proofs.Items.{rising_from}
use Rattle.collections.proofs.queue.QueueCol.to_vec.Goals as goal

pub returns : goal.returns
returns c =
    let pairs = c.in_ok-pairs.pairs.items in
    record {
      rising = rising_from c.sort_unstable.new.self.items c.sort_unstable.ensures.sorted;
      same = bag_from-reordered pairs c.sort_unstable.new.self.items
          c.sort_unstable.ensures.permutation ∙ ap bag_from c.in_ok-pairs.ensures ∙
          bag_from-live_pairs c.deref.result.now ∙ ap bag_of c.deref.ensures.value ∙
          c.self.view_is;
    }
