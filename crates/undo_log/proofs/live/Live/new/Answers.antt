use Rattle.std.proofs.Common.{map, ap}
use Rattle.undo_log.proofs.Slots.{live_none}
use Rattle.undo_log.proofs.Marks.{none_merged}
use Rattle.undo_log.proofs.Written.{none_once, none_stamped}
use Rattle.undo_log.proofs.Index.{none_index}
use Rattle.undo_log.proofs.live.Live.new.Goals as goal

pub invariant_of-result : goal.invariant_of-result
invariant_of-result c = (
  none_once c.new.result c.new.ensures.empty,
  none_stamped c.new.result c.new.ensures.empty,
  rw c.new-2.ensures.items (none_index c.new.result c.new.ensures.empty),
)

pub returns-clause-live : goal.returns-clause-live
returns-clause-live c = live_none c.new.result.slots c.new.ensures.empty

pub returns-clause-entries : goal.returns-clause-entries
returns-clause-entries c =
    ap (map (λ m. m.1)) (none_merged c.new.result.slots c.new.ensures.empty)
