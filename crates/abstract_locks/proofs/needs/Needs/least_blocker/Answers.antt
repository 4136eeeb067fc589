use Rattle.std.proofs.Common.{take_all}
use Rattle.abstract_locks.specs.Segments.{all_holds}
use Rattle.abstract_locks.proofs.Blocking.{next_segment}
use Rattle.abstract_locks.proofs.Reaching.{least_of_all}
use Rattle.abstract_locks.proofs.needs.Needs.least_blocker.Goals as goal

pub loop-segment-preserved : goal.loop-segment-preserved
loop-segment-preserved c =
    rw c.lesser-least.ensures
    (next_segment c.args.owner c.args.at c.args.need.now c.within_reach-segment-items.result.now
    c.loop-segment.segment-index c.segment-item.result c.loop-segment-test.true c.segment-item.is
    c.loop-segment.least c.least_blocker.result c.loop-segment.invariant c.least_blocker.ensures)

pub returns : goal.returns
returns c =
    let a = c.args in
    let reached = c.within_reach-segment-items.result.now in
    let seen = rw (take_all c.loop-segment.segment-index reached c.loop-segment-test.false)
    at c.loop-segment.invariant in
    rw (← c.self.view_is, ← c.deref.ensures.value)
    (least_of_all a.owner a.at a.need.now (all_holds c.deref.result.now) (all_holds reached)
    c.within_reach-segment-items.ensures c.loop-segment.least seen)
