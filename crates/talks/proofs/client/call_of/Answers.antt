use Rattle.std.proofs.Common.{inl, inr, refl, sym, ◌∙◌}
use Rattle.talks.proofs.Removals.{can_remove, cannot_remove}
use Rattle.talks.proofs.client.call_of.Goals as goal

pub returns-then-is_map : goal.returns-then-is_map
returns-then-is_map c s at is = rw (c.in-Remove.is) (inl (
  can_remove s at c.in-Remove.key (sym is ∙ c.is_map.ensures.0 c.if-is_map.true),
  refl,
))

pub returns-else-is_map : goal.returns-else-is_map
returns-else-is_map c s at is = rw (c.in-Remove.is) (inr (
  cannot_remove s at c.in-Remove.key (λ map.
      let yes = c.is_map.ensures.1 (is ∙ map) in
      let no' = c.if-is_map.false in
      absurd (cc)),
  refl,
))
