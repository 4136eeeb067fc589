use Rattle.std.proofs.lemmas.Result.{err_from_is_err_and}
use Rattle.fizgaloms.proofs.TicketLemmas.{was_told_kept, committed_still}
use Rattle.fizgaloms.proofs.Trying.{ran_heard, keeps_lost}
use Rattle.fizgaloms.proofs.transacting.keep_tried.Goals as goal

pub returns-in_err-wait-clause-keeps : goal.returns-in_err-wait-clause-keeps
returns-in_err-wait-clause-keeps g c =
    let p = err_from_is_err_and c.from_residual-in_err-wait.result
    c.from_residual-in_err-wait.ensures.1 in
    keeps_lost g.J.Naming (g.T.Transaction.refuses c.args.transaction.now)
    (g.T.Transaction.says c.args.transaction.now) c.args.attempts c.args.client.now
    c.try_within.new.client c.wait.new.self (c.in_ok-output.output, c.in_ok-output.ticket)
    c.from_residual-in_err-wait.result p.0 c.in_err-wait.field-0.0 p.1 p.2
    c.in_ok-output.ensures.goes c.in_err-wait.ensures

pub returns-clause-kept : goal.returns-clause-kept
returns-clause-kept g c =
    let place = c.in_ok-output.ticket.place in (
      committed_still c.try_within.new.client c.wait.new.self place place _ c.in_ok-wait.ensures
          c.in_ok-output.ensures.committed,
      was_told_kept c.try_within.new.client c.wait.new.self place c.in_ok-wait.ensures,
    )

pub returns-clause-keeps : goal.returns-clause-keeps
returns-clause-keeps g c =
    ran_heard g.J.Naming (g.T.Transaction.refuses c.args.transaction.now) c.args.attempts
    (g.T.Transaction.says c.args.transaction.now c.in_ok-output.output) c.args.client.now
    c.try_within.new.client c.wait.new.self c.in_ok-output.ticket.place
    c.in_ok-wait.ensures.counts c.in_ok-wait.ensures.flags c.in_ok-output.ensures.goes
    c.in_ok-wait.ensures.hears
