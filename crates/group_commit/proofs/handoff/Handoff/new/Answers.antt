use Rattle.std.proofs.Common.{rules}
use Rattle.group_commit.proofs.Handing.{begins, parts}
use Rattle.group_commit.proofs.handoff.Handoff.new.Goals as goal

pub ruled-requires-clause-rule : goal.ruled-requires-clause-rule
ruled-requires-clause-rule c = begins

pub another-other-requires-clause-rule : goal.another-other-requires-clause-rule
another-other-requires-clause-rule c = parts (λ l. l) _ _ (search rules) (search rules)

pub invariant_of-result : goal.invariant_of-result
invariant_of-result c = search rules
