use Rattle.std.proofs.Common.{inr, refl}
use Rattle.talks.proofs.transacting.finish.Goals as goal

pub returns-in-Some : goal.returns-in-Some
returns-in-Some g c = inr (
  c.in-Some.told,
  c.take_back.result,
  c.run_calls.new.speaker,
  refl,
  rw c.in-Some.is at c.run_calls.ensures,
  c.take_back.ensures,
)
