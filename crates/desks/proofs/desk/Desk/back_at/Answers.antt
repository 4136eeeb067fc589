use Rattle.catalog.specs.Laws.Numbers.{which_is, which_last}
use Rattle.desks.proofs.desk.Desk.back_at.Goals as goal

pub back-requires-clause-place : goal.back-requires-clause-place
back-requires-clause-place g c = which_is c.args.at 0 c.if-at-eq0.true

pub back-requires-then-at-eq1-clause-place : goal.back-requires-then-at-eq1-clause-place
back-requires-then-at-eq1-clause-place g c = which_is c.args.at 1 c.if-at-eq1.true

pub back-requires-then-at-eq2-clause-place : goal.back-requires-then-at-eq2-clause-place
back-requires-then-at-eq2-clause-place g c = which_is c.args.at 2 c.if-at-eq2.true

pub back-requires-2-clause-place : goal.back-requires-2-clause-place
back-requires-2-clause-place g c =
    which_last c.args.at c.if-at-eq0.false c.if-at-eq1.false c.if-at-eq2.false
