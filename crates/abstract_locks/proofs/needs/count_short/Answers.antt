use Rattle.std.proofs.Common.{◌-◌, arith}
use Rattle.abstract_locks.proofs.Reaching.{short}
use Rattle.abstract_locks.proofs.needs.count_short.Goals as goal

pub returns-clause-short : goal.returns-clause-short
returns-clause-short c =
    let a = c.args in
    let far = c.if-need-widest.false in
    short a.segments.now a.widest a.need.now (a.need.now.low - a.widest - 1) c.count_to.result
    c.saturating_sub.result c.requires.order c.requires.narrow (omega arith)
    c.count_to.ensures.bound c.count_to.ensures.parted c.saturating_sub.ensures
