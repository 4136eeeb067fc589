use Rattle.abstract_locks.proofs.Placing.{placed}
use Rattle.abstract_locks.proofs.needs.place_of.Goals as goal

pub returns : goal.returns
returns c =
    placed c.args.segments.now c.args.hold.now c.count_before.result c.saturating_sub.result
    c.requires c.count_before.ensures.bound c.count_before.ensures.parted
    c.saturating_sub.ensures
