use Rattle.std.proofs.Common.{inl, inr, refl, rules}
use Rattle.talks.proofs.requests.remove.Goals as goal

pub returns : goal.returns
returns g c = (
  c.call-answer.result,
  c.call-answer.new.self,
  c.call-answer.ensures.step,
  inl (search rules, refl, refl),
)

pub returns-then-is_of_another_kind : goal.returns-then-is_of_another_kind
returns-then-is_of_another_kind g c = (
  c.call-answer.result,
  c.call-answer.new.self,
  c.call-answer.ensures.step,
  inr (search rules, c.call.ensures.step),
)
