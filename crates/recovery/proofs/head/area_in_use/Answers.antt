use Rattle.std.proofs.Common.{◌%◌, get_or, arith}
use Rattle.std.proofs.lemmas.Grind.{common_steps}
use Rattle.recovery.proofs.HeadLemmas.{one_or_other}
use Rattle.recovery.proofs.head.area_in_use.Goals as goal

pub returns-clause-header : goal.returns-clause-header
returns-clause-header g c = grind (arith, common_steps)

pub returns-clause-inside : goal.returns-clause-inside
returns-clause-inside g c =
    let size = c.in_ok-size.ensures.size in
    let second = get_or c.read.new.out 0 0 % 2 in
    let at = (one_or_other c.in_ok-size.size second (omega arith)).0 in
    (omega (arith, size.0), size.1, omega (arith, size.1, at), omega (arith, size.2, at))

pub returns-clause-one : goal.returns-clause-one
returns-clause-one g c =
    let second = get_or c.read.new.out 0 0 % 2 in
    (c.in_ok-size.ensures.size.2, (one_or_other c.in_ok-size.size second (omega arith)).1)
