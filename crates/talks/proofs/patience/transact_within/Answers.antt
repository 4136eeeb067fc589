use Rattle.std.proofs.Common.{sym, subst}
use Rattle.talks.specs.Talks.{TransactsWithin}
use Rattle.talks.proofs.patience.transact_within.Goals as goal

pub returns-clause-done : goal.returns-clause-done
returns-clause-done g c =
    let done = subst (λ s. TransactsWithin g.S.Speaker s c.args.calls.now
    c.try_until-outcome.result c.try_until-outcome.new.speaker) c.line_up.ensures
    c.try_until-outcome.ensures.done in
    subst (λ s. TransactsWithin g.S.Speaker c.args.speaker.now c.args.calls.now
    c.try_until-outcome.result s) (sym c.leave_line.ensures) done
