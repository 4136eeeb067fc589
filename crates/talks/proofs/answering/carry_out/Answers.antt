use Rattle.std.proofs.Common.{subst}
use Rattle.talks.specs.Talks.{Does, TransactsWithin}
use Rattle.talks.proofs.answering.carry_out.Goals as goal

pub returns-in-Do-clause-done : goal.returns-in-Do-clause-done
returns-in-Do-clause-done g c = rw c.in-Do.is (
  c.run_line.result,
  subst (λ rs. Does g.S.Speaker c.args.speaker.now rs c.run_line.result
      c.run_line.new.speaker) c.as_slice.ensures.value c.run_line.ensures,
  c.told_of.ensures,
)

pub returns-in-DoAndKeep-clause-done : goal.returns-in-DoAndKeep-clause-done
returns-in-DoAndKeep-clause-done g c = rw c.in-DoAndKeep.is (
  c.run_line-outcome.result,
  c.run_line-outcome.new.speaker,
  subst (λ rs. Does g.S.Speaker c.args.speaker.now rs c.run_line-outcome.result
      c.run_line-outcome.new.speaker) c.as_slice-in-DoAndKeep.ensures.value
      c.run_line-outcome.ensures,
  c.keep_outcome.ensures.done,
)

pub returns-in-DoWithin-clause-done : goal.returns-in-DoWithin-clause-done
returns-in-DoWithin-clause-done g c = rw c.in-DoWithin.is (
  c.transact_within.result,
  subst (λ rs. TransactsWithin g.S.Speaker c.args.speaker.now rs c.transact_within.result
      c.transact_within.new.speaker) c.as_slice-in-DoWithin.ensures.value
      c.transact_within.ensures.done,
  c.told_of-in-DoWithin.ensures,
)

pub returns-in-KeepWithin-clause-done : goal.returns-in-KeepWithin-clause-done
returns-in-KeepWithin-clause-done g c = rw c.in-KeepWithin.is (
  c.transact_within-outcome.result,
  c.transact_within-outcome.new.speaker,
  subst (λ rs. TransactsWithin g.S.Speaker c.args.speaker.now rs c.transact_within-outcome.result
      c.transact_within-outcome.new.speaker) c.as_slice-in-KeepWithin.ensures.value
      c.transact_within-outcome.ensures.done,
  c.keep_outcome-in-KeepWithin.ensures.done,
)
