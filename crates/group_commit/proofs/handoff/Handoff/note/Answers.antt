use Rattle.std.proofs.Common.{rules, ◌∷◌}
use Rattle.group_commit.proofs.Handing.{parts}
use Rattle.group_commit.proofs.handoff.Handoff.note.Goals as goal

pub another-requires-clause-rule : goal.another-requires-clause-rule
another-requires-clause-rule g c =
    parts (λ l. g.W.OneGather.gather ∷ l) _ _ (search rules) (search rules)

pub invariant_of-receiver : goal.invariant_of-receiver
invariant_of-receiver g c = search rules
