use Rattle.std.proofs.lemmas.Result.{err_from_is_err_and}
use Rattle.fizgaloms.proofs.TicketLemmas.{was_told_kept, committed_still}
use Rattle.fizgaloms.proofs.Trying.{ran_heard, keeps_lost}
use Rattle.fizgaloms.proofs.seeking.keep_sought.Goals as goal

pub returns-in_err-wait-clause-keeps : goal.returns-in_err-wait-clause-keeps
returns-in_err-wait-clause-keeps g c =
    let p = err_from_is_err_and c.from_residual-in_err-wait.result
    c.from_residual-in_err-wait.ensures.1 in
    let goes = c.in_ok-output.ensures.goes in (
      goes.0,
      keeps_lost g.J.Naming (g.T.Transaction.refuses c.args.transaction.now)
          (g.T.Transaction.says c.args.transaction.now) goes.0 c.args.client.now
          c.seek.new.client c.wait.new.self (c.in_ok-output.output, c.in_ok-output.ticket)
          c.from_residual-in_err-wait.result p.0 c.in_err-wait.field-0.0 p.1 p.2
          goes.1 c.in_err-wait.ensures,
    )

pub returns-clause-kept : goal.returns-clause-kept
returns-clause-kept g c =
    let place = c.in_ok-output.ticket.place in (
      committed_still c.seek.new.client c.wait.new.self place place _ c.in_ok-wait.ensures
          c.in_ok-output.ensures.committed,
      was_told_kept c.seek.new.client c.wait.new.self place c.in_ok-wait.ensures,
    )

pub returns-clause-keeps : goal.returns-clause-keeps
returns-clause-keeps g c =
    let goes = c.in_ok-output.ensures.goes in (
      goes.0,
      ran_heard g.J.Naming (g.T.Transaction.refuses c.args.transaction.now) goes.0
          (g.T.Transaction.says c.args.transaction.now c.in_ok-output.output) c.args.client.now
          c.seek.new.client c.wait.new.self c.in_ok-output.ticket.place
          c.in_ok-wait.ensures.counts c.in_ok-wait.ensures.flags goes.1
          c.in_ok-wait.ensures.hears,
    )
