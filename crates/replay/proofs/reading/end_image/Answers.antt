use Rattle.std.proofs.Common.{◌≡◌, refl, subst, Option, None}
use Rattle.std.specs.Prelude.{IfNone}
use Rattle.replay.proofs.reading.end_image.Goals as goal

-- what is said where there is none
none_there : {T : Type 0} (m : Option T) (P : Type 0) → m ≡ None → IfNone m P → P
none_there m P is said = subst (λ o. IfNone o P) is said

pub returns-in-None-clause-err : goal.returns-in-None-clause-err
returns-in-None-clause-err c = (
  refl,
  λ settles. none_there c.in_ok-machine.field-0 _ c.in-None.is c.in_ok-machine.ensures.none
      settles.0 settles.1,
)
