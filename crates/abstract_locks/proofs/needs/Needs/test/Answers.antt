use Rattle.std.proofs.Common.{rules}
use Rattle.abstract_locks.proofs.needs.Needs.test.Goals as goal

pub returns-in-None-clause-busy : goal.returns-in-None-clause-busy
returns-in-None-clause-busy c = search rules

pub returns-in-Some-clause-clear : goal.returns-in-Some-clause-clear
returns-in-Some-clause-clear c = search rules
