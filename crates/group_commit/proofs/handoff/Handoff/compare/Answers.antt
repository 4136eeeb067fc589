use Rattle.std.proofs.Common.{rules}
use Rattle.group_commit.proofs.Handing.{parts}
use Rattle.group_commit.proofs.handoff.Handoff.compare.Goals as goal

pub another-requires-clause-rule : goal.another-requires-clause-rule
another-requires-clause-rule c = parts (λ l. l) _ _ (search rules) (search rules)

pub invariant_of-receiver : goal.invariant_of-receiver
invariant_of-receiver c = search rules
