use Rattle.std.proofs.Common.{arith}
use Rattle.steps.proofs.DeferredRuns.{running_first, running_can, running_fits, running_more}
use Rattle.steps.proofs.DeferredRuns.{running_end}
use Rattle.steps.proofs.laters.run_laters.Goals as goal

pub loop-stamped-init : goal.loop-stamped-init
loop-stamped-init g c = running_first g.C.Boosted.meaning g.met.C.Boosted.laws c.args.quarter
    c.args.entries.now
    c.args.collections.now c.requires.can

pub run_entry-count-requires : goal.run_entry-count-requires
run_entry-count-requires g c = record {
  can = running_can g.C.Boosted.meaning g.met.C.Boosted.laws c.args.quarter
      c.args.entries.now
      c.args.collections.now
      c.loop-stamped.stamped-index c.stamped-item.result c.loop-stamped-test.true c.stamped-item.is
      c.loop-stamped.collections c.loop-stamped.count c.loop-stamped.invariant;
}

pub overflow_add-count : goal.overflow_add-count
overflow_add-count g c =
    let fits = running_fits g.C.Boosted.meaning g.met.C.Boosted.laws c.args.quarter
    c.args.entries.now
    c.args.collections.now c.loop-stamped.stamped-index c.stamped-item.result
    c.loop-stamped-test.true
    c.stamped-item.is c.loop-stamped.collections c.loop-stamped.count c.loop-stamped.invariant in
    let ran = c.run_entry-count.ensures.count in
    omega arith

pub loop-stamped-preserved : goal.loop-stamped-preserved
loop-stamped-preserved g c = rw c.run_entry-count.ensures.count
    (running_more g.C.Boosted.meaning g.met.C.Boosted.laws c.args.quarter
    c.args.entries.now c.args.collections.now
    c.loop-stamped.stamped-index c.stamped-item.result c.loop-stamped-test.true c.stamped-item.is
    c.loop-stamped.collections c.loop-stamped.count c.loop-stamped.invariant
    c.run_entry-count.new.collections
    c.run_entry-count.ensures.runs)

pub returns-clause-runs : goal.returns-clause-runs
returns-clause-runs g c =
    (running_end g.C.Boosted.meaning g.met.C.Boosted.laws c.args.quarter
    c.args.entries.now c.args.collections.now
    c.loop-stamped.stamped-index c.loop-stamped.collections c.loop-stamped.count
    (omega (arith, c.loop-stamped-test.false)) c.loop-stamped.invariant).0

pub returns-clause-count : goal.returns-clause-count
returns-clause-count g c =
    (running_end g.C.Boosted.meaning g.met.C.Boosted.laws c.args.quarter
    c.args.entries.now c.args.collections.now
    c.loop-stamped.stamped-index c.loop-stamped.collections c.loop-stamped.count
    (omega (arith, c.loop-stamped-test.false)) c.loop-stamped.invariant).1
