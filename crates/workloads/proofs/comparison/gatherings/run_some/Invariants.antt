use Rattle.workloads.specs.Gatherings.{IsGoing}
use Rattle.workloads.proofs.comparison.gatherings.run_some.Given as goal

abbrev pub invariant-loop : goal.invariant-loop
invariant-loop l = IsGoing l.gathering
