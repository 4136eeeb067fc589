use Rattle.std.proofs.Common.{refl}
use Rattle.replay.proofs.ReadLemmas.{step_takes, step_stuck, item_steps, answer_true}
use Rattle.replay.proofs.ReadLemmas.{answer_false}
use Rattle.replay.proofs.reading.repeat.Goals as goal

pub returns-then-is_item-clause-err : goal.returns-then-is_item-clause-err
returns-then-is_item-clause-err c = (
  refl,
  λ n. step_stuck n c.args.machine c.args.count c.args.entry
      (λ u v like step. item_steps u v c.args.entry (c.is_item.ensures.0 c.if-is_item.true) step),
)

pub returns-in-Ok-false-clause-err : goal.returns-in-Ok-false-clause-err
returns-in-Ok-false-clause-err c = (
  refl,
  λ n. step_stuck n c.args.machine c.args.count c.args.entry
      (answer_false c.args.machine c.repeat.new.self c.args.entry c.in-Ok-false.field-0
      c.in-Ok-false.field-0-test c.in-Ok-false.ensures),
)

pub returns-in-Ok-true-clause-ok : goal.returns-in-Ok-true-clause-ok
returns-in-Ok-true-clause-ok c =
    let step = answer_true c.args.machine c.repeat.new.self c.args.entry c.in-Ok-true.field-0
    c.in-Ok-true.field-0-test c.in-Ok-true.ensures in
    λ n. step_takes n c.args.machine c.args.count c.args.entry c.repeat.new.self step.0 step.1
