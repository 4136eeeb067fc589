use Rattle.std.proofs.Common.{subst}
use Rattle.calls.specs.Maps.{IsCeiling, HasNoCeiling}
use Rattle.collections.proofs.Tables.{is_ceiling, has_no_ceiling}
use Rattle.collections.proofs.map.MapCol.ceiling.Goals as goal

pub returns-in-Some : goal.returns-in-Some
returns-in-Some c =
    subst (λ m. IsCeiling m c.args.key c.in-Some.at.now c.in-Some.value.now) c.self.view_is
    (is_ceiling c.self.inside.values c.args.key c.range.result (c.range.ensures.in_range tt)
    c.in-Some.at.now c.in-Some.value.now _ c.in-Some.ensures.steps)

pub returns-in-None : goal.returns-in-None
returns-in-None c =
    subst (λ m. HasNoCeiling m c.args.key) c.self.view_is
    (has_no_ceiling c.self.inside.values c.args.key c.range.result (c.range.ensures.in_range tt)
    c.in-None.ensures.steps.0)
