use Rattle.std.proofs.Common.{ap, ◌∙◌}
use Rattle.group_commit.specs.declared.handoff.Log.{Log}
use Rattle.group_commit.proofs.Handing.{leaves, joins, shows_both}
use Rattle.group_commit.proofs.handoff.Handoff.unite.Goals as goal

pub another-whole-requires-clause-rule : goal.another-whole-requires-clause-rule
another-whole-requires-clause-rule c = leaves _ _ c.requires.receiver.2

pub absorb-requires-clause-rule : goal.absorb-requires-clause-rule
absorb-requires-clause-rule c =
    joins _ _ _ _ (ap (λ (v : Log). v.sends) c.requires.sender.2)
    (ap (λ (v : Log). v.receives) (c.another-whole.ensures.rule.1 ∙ c.requires.receiver.2))

pub learn_as-requires-clause-rule : goal.learn_as-requires-clause-rule
learn_as-requires-clause-rule c =
    shows_both _ _ (ap (λ (v : Log). v.sends) c.absorb.ensures.rule)
    (ap (λ (v : Log). v.receives) c.absorb.ensures.rule)
