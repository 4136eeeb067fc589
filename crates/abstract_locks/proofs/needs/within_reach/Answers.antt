use Rattle.std.proofs.Common.{take}
use Rattle.std.proofs.lemmas.List.{take_rest}
use Rattle.abstract_locks.proofs.Reaching.{ordered_part, narrow_part, in_reach}
use Rattle.abstract_locks.proofs.needs.within_reach.Goals as goal

pub count_short-requires-clause-order : goal.count_short-requires-clause-order
count_short-requires-clause-order c =
    ordered_part c.args.segments.now c.count_to.result c.requires.order

pub count_short-requires-clause-narrow : goal.count_short-requires-clause-narrow
count_short-requires-clause-narrow c =
    narrow_part c.args.segments.now c.count_to.result c.args.widest c.requires.narrow

pub returns : goal.returns
returns c =
    let begun = take c.count_to.result c.args.segments.now in
    rw (take_rest begun c.count_short.result)
    (in_reach c.args.segments.now c.args.need.now c.count_to.result c.count_short.result
    c.requires.order c.count_to.ensures.parted c.count_short.ensures.short)
