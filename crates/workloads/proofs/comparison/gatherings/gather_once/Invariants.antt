use Rattle.workloads.specs.Gatherings.{IsGoing}
use Rattle.workloads.proofs.comparison.gatherings.gather_once.Given as goal

abbrev pub invariant-loop : goal.invariant-loop
invariant-loop l = IsGoing l.gathering
