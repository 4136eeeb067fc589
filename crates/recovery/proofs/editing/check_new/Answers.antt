use Rattle.std.proofs.Common.{refl, subst}
use Rattle.calls.specs.Names.{IsName}
use Rattle.recovery.proofs.EditLemmas.{place_contains, place_free}
use Rattle.recovery.proofs.editing.check_new.Goals as goal

pub returns-in-Ok-clause-err : goal.returns-in-Ok-clause-err
returns-in-Ok-clause-err c = (
  subst IsName c.as_str.ensures (c.in_ok-check_name.ensures.ok.0 refl),
  place_contains c.args.kept.now c.args.name.now c.in-Ok.field-0 c.in-Ok.ensures.there,
)

pub returns-in-Err-clause-ok : goal.returns-in-Err-clause-ok
returns-in-Err-clause-ok c = (
  subst IsName c.as_str.ensures (c.in_ok-check_name.ensures.ok.0 refl),
  place_free c.args.kept.now c.args.name.now c.in-Err.ensures.refused.1,
)
