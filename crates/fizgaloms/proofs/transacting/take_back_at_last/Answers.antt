use Rattle.fizgaloms.proofs.Knowing.{knows_same, knows_through}
use Rattle.fizgaloms.proofs.transacting.take_back_at_last.Goals as goal

pub loop-init : goal.loop-init
loop-init g c = knows_same c.args.client.now

pub loop-preserved : goal.loop-preserved
loop-preserved g c =
    knows_through c.args.client.now c.loop.client c.is_over.new.client c.loop.invariant
    c.is_over.ensures

pub returns-then-is_over : goal.returns-then-is_over
returns-then-is_over g c =
    knows_through c.args.client.now c.loop.client c.is_over.new.client c.loop.invariant
    c.is_over.ensures
