use Rattle.workloads.proofs.Going.{deferred_runs}
use Rattle.workloads.proofs.comparison.gatherings.Gathering.can_run.Goals as goal

pub returns-else-is_ok : goal.returns-else-is_ok
returns-else-is_ok c =
    rw c.is_ok-else-is_ok.ensures.value
    (λ t. deferred_runs c.args.self.now.catalog c.args.at c.args.call.now
    (c.deferrable.ensures.ok.0 t))
