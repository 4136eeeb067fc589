use Rattle.catalog.specs.Laws.Numbers.{which_is, which_last}
use Rattle.store.proofs.gatherer.Gatherer.copy_at.Goals as goal

pub copy_on-requires-clause-place : goal.copy_on-requires-clause-place
copy_on-requires-clause-place g c = which_is c.args.next.now.at 0 c.if-next-eq0.true

pub copy_on-requires-then-next-eq1-clause-place : goal.copy_on-requires-then-next-eq1-clause-place
copy_on-requires-then-next-eq1-clause-place g c =
    which_is c.args.next.now.at 1 c.if-next-eq1.true

pub copy_on-requires-then-next-eq2-clause-place : goal.copy_on-requires-then-next-eq2-clause-place
copy_on-requires-then-next-eq2-clause-place g c =
    which_is c.args.next.now.at 2 c.if-next-eq2.true

pub copy_on-requires-2-clause-place : goal.copy_on-requires-2-clause-place
copy_on-requires-2-clause-place g c = which_last c.args.next.now.at c.if-next-eq0.false
    c.if-next-eq1.false c.if-next-eq2.false
