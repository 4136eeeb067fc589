use Rattle.std.proofs.Common.{refl, arith}
use Rattle.records.proofs.RecordLaws.{Fits-read, is_found, is_only, is_unsound, is_nothing}
use Rattle.records.proofs.RecordLaws.{refuted}
use Rattle.records.proofs.decoding.decode.Goals as goal

pub is_sound-requires : goal.is_sound-requires
is_sound-requires c =
    Fits-read c.args.last c.args.bytes.now c.in-Ok.found c.in-Ok.rest.now
    (λ i. omega (arith, c.type_inv.bytes i)) c.in-Ok.ensures

pub returns-in-Ok-true-clause-found : goal.returns-in-Ok-true-clause-found
returns-in-Ok-true-clause-found c =
    is_found c.args.last c.args.bytes.now c.in-Ok.found c.in-Ok.rest.now
    (λ i. omega (arith, c.type_inv.bytes i)) c.in-Ok.ensures
    (c.in-Ok-true.ensures.is.0 c.in-Ok-true.field-0-test)

pub returns-in-Ok-true-clause-again : goal.returns-in-Ok-true-clause-again
returns-in-Ok-true-clause-again c r rest begins =
    is_only c.args.last c.args.bytes.now c.in-Ok.found c.in-Ok.rest.now c.in-Ok.ensures r rest
    begins

pub returns-in-Ok-false-clause-refused : goal.returns-in-Ok-false-clause-refused
returns-in-Ok-false-clause-refused c = (
  refl,
  is_unsound c.args.last c.args.bytes.now c.in-Ok.found c.in-Ok.rest.now c.in-Ok.ensures
      (refuted c.in-Ok-false.field-0 c.in-Ok-false.ensures.is c.in-Ok-false.field-0-test),
)

pub returns-in-Ok-false-clause-again : goal.returns-in-Ok-false-clause-again
returns-in-Ok-false-clause-again c r rest begins =
    absurd (is_unsound c.args.last c.args.bytes.now c.in-Ok.found c.in-Ok.rest.now c.in-Ok.ensures
    (refuted c.in-Ok-false.field-0 c.in-Ok-false.ensures.is c.in-Ok-false.field-0-test) r rest
    begins)

pub returns-in-Err-Damage-clause-refused : goal.returns-in-Err-Damage-clause-refused
returns-in-Err-Damage-clause-refused c = (
  refl,
  is_nothing c.args.last c.args.bytes.now
      (rw c.in-Err-Damage.field-0-is at c.in-Err-Damage.ensures),
)

pub returns-in-Err-Damage-clause-again : goal.returns-in-Err-Damage-clause-again
returns-in-Err-Damage-clause-again c r rest begins =
    absurd (is_nothing c.args.last c.args.bytes.now
    (rw c.in-Err-Damage.field-0-is at c.in-Err-Damage.ensures) r rest begins)
