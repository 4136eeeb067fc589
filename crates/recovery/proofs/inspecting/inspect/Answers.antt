use Rattle.recovery.proofs.FindLemmas.{reported}
use Rattle.recovery.proofs.inspecting.inspect.Goals as goal

pub returns-clause-report : goal.returns-clause-report
returns-clause-report g c = λ true_read. reported _ _ _ _ _ _ _ _ c.in_ok-report.ensures.found
    true_read
