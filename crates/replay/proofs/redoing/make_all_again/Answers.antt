use Rattle.std.proofs.Common.{arith}
use Rattle.replay.proofs.TakenBack.{TakeLaws, take_laws, making_can, making_next, making_end}
use Rattle.replay.proofs.redoing.make_all_again.Given.{Over}
use Rattle.replay.proofs.redoing.make_all_again.Goals as goal

-- the laws of the collections
laws : (g : Over) → TakeLaws g.B.Boosted.meaning
laws g = take_laws g.met.B.Boosted.laws g.met.B.Coded.told

pub make_again-requires : goal.make_again-requires
make_again-requires g c = making_can g.B.Boosted.meaning (laws g) c.args.entries.now
    c.args.parts.now c.loop-owned.owned-index c.owned-item.result c.loop-owned-test.true
    c.owned-item.is c.loop-owned.parts c.loop-owned.invariant

pub loop-owned-preserved : goal.loop-owned-preserved
loop-owned-preserved g c =
    making_next g.B.Boosted.meaning (laws g) c.args.entries.now c.args.parts.now
    c.loop-owned.owned-index c.owned-item.result c.loop-owned-test.true c.owned-item.is
    c.loop-owned.parts c.loop-owned.invariant c.make_again.new.parts
    c.in_ok-make_again.ensures.ok

pub returns-clause-ok : goal.returns-clause-ok
returns-clause-ok g c = making_end g.B.Boosted.meaning (laws g) c.args.entries.now c.args.parts.now
    c.loop-owned.owned-index c.loop-owned.parts (omega (arith, c.loop-owned-test.false))
    c.loop-owned.invariant
