use Rattle.std.proofs.Common.{arith}
use Rattle.collections.proofs.Holders.{bag_of-marked, marks_of-marked, no_copy}
use Rattle.collections.proofs.heap.mark.Goals as goal

pub returns-clause-bag : goal.returns-clause-bag
returns-clause-bag c =
    bag_of-marked c.args.holders.now c.in-Some.at c.args.priority c.args.tag c.in-Some.ensures

pub returns-clause-marks : goal.returns-clause-marks
returns-clause-marks c =
    marks_of-marked c.args.holders.now c.in-Some.at c.args.priority c.args.tag c.in-Some.ensures

pub unreachable-requires : goal.unreachable-requires
unreachable-requires c =
    let none = no_copy c.args.holders.now c.args.priority c.args.tag c.in-None.ensures in
    let some = c.requires.some in absurd (omega arith)
