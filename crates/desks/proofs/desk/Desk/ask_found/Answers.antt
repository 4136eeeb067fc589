use Rattle.catalog.specs.Laws.Numbers.{which_is, which_last}
use Rattle.desks.proofs.desk.Desk.ask_found.Goals as goal

pub look_and_ask-requires-clause-place : goal.look_and_ask-requires-clause-place
look_and_ask-requires-clause-place g c = which_is c.args.at 0 c.if-at-eq0.true

pub look_and_ask-requires-then-at-eq1-clause-place : goal.look_and_ask-requires-then-at-eq1-clause-place
look_and_ask-requires-then-at-eq1-clause-place g c = which_is c.args.at 1 c.if-at-eq1.true

pub look_and_ask-requires-then-at-eq2-clause-place : goal.look_and_ask-requires-then-at-eq2-clause-place
look_and_ask-requires-then-at-eq2-clause-place g c = which_is c.args.at 2 c.if-at-eq2.true

pub look_and_ask-requires-2-clause-place : goal.look_and_ask-requires-2-clause-place
look_and_ask-requires-2-clause-place g c =
    which_last c.args.at c.if-at-eq0.false c.if-at-eq1.false c.if-at-eq2.false
