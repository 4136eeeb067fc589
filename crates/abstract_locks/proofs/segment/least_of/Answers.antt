use Rattle.abstract_locks.proofs.Blocking.{next_blocks, next_free}
use Rattle.abstract_locks.proofs.segment.least_of.Goals as goal
use Rattle.abstract_locks.proofs.segment.least_of.Goals.{then-blocks, else-blocks}

pub loop-hold-preserved : goal.loop-hold-preserved
loop-hold-preserved c =
    let holds = c.args.holds.now in
    let i = c.loop-hold.hold-index in
    let lt = c.loop-hold-test.true in
    let least = c.loop-hold.least in
    let seen = c.loop-hold.invariant in
    elim c.if-blocks.branch [
      | then-blocks w ↦ rw (w.least-is, w.lesser-least.ensures)
          (next_blocks c.args.owner c.args.at c.args.need.now holds i _ lt least seen
          (c.blocks-in-loop-hold.ensures.0 w.if-blocks.true))
      | else-blocks w ↦ rw w.least-is
          (next_free c.args.owner c.args.at c.args.need.now holds i _ lt least seen
          (λ b. let yes = c.blocks-in-loop-hold.ensures.1 b in let none = w.if-blocks.false in cc))
    ]
