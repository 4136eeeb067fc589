use Rattle.std.proofs.Common.{rules}
use Rattle.steps.proofs.laters.run_deferred.Goals as goal

pub returns-in-Deferred-clause-runs : goal.returns-in-Deferred-clause-runs
returns-in-Deferred-clause-runs g c = search rules

pub returns-in-Deferred-clause-count : goal.returns-in-Deferred-clause-count
returns-in-Deferred-clause-count g c = search rules
