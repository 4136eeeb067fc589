use Rattle.std.proofs.Common.{refl}
use Rattle.undo_log.proofs.LeftLemmas.{going_here, going_behind}
use Rattle.undo_log.proofs.left_calls.is_going.Goals as goal

pub returns-then-is_left_by : goal.returns-then-is_left_by
returns-then-is_left_by c = (
  λ yes. c.loop-stamped.invariant.1
      (going_here c.args.at c.args.call.now c.args.entries.now c.loop-stamped.stamped-index
      c.stamped-item.result c.loop-stamped-test.true c.stamped-item.is
      (c.is_left_by.ensures.0 c.if-is_left_by.true)),
  λ h. refl,
)

pub loop-stamped-preserved : goal.loop-stamped-preserved
loop-stamped-preserved c =
    let behind = going_behind c.args.at c.args.call.now c.args.entries.now
    c.loop-stamped.stamped-index c.stamped-item.result c.loop-stamped-test.true c.stamped-item.is
    (λ leaves. let yes = c.is_left_by.ensures.1 leaves in
    let no_one = c.if-is_left_by.false in cc) in
    (λ h. behind.0 (c.loop-stamped.invariant.0 h), λ h. c.loop-stamped.invariant.1 (behind.1 h))
