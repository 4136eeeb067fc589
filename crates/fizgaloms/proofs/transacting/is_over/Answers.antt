use Rattle.fizgaloms.proofs.Knowing.{knows_heard, knows_through}
use Rattle.fizgaloms.proofs.transacting.is_over.Goals as goal

pub returns-then-has_failed : goal.returns-then-has_failed
returns-then-has_failed g c =
    knows_through c.args.client.now c.take_back-taken_back.new.client
    c.has_failed-has_failed.new.self c.take_back-taken_back.ensures.tried.1.knows
    (knows_heard _ _ _ _ c.has_failed-has_failed.ensures)

pub returns-else-has_failed : goal.returns-else-has_failed
returns-else-has_failed g c =
    knows_through c.args.client.now c.take_back-taken_back.new.client
    c.has_failed-has_failed.new.self c.take_back-taken_back.ensures.tried.1.knows
    (knows_heard _ _ _ _ c.has_failed-has_failed.ensures)
