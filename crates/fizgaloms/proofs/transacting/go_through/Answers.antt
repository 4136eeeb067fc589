use Rattle.std.proofs.Common.{◌++◌, inl, inr, refl, List}
use Rattle.std.proofs.lemmas.Result.{err_from_is_err_and}
use Rattle.clients.specs.Attempts.{number_of}
use Rattle.txn.specs.declared.actions.Action.{Action}
use Rattle.fizgaloms.specs.Transactions.{Tried, Stops}
use Rattle.fizgaloms.proofs.TicketLemmas.{has_committed}
use Rattle.fizgaloms.proofs.Trying.{tried_then, tried_attempted, tried_commit, ran_through}
use Rattle.fizgaloms.proofs.Trying.{begun_is}
use Rattle.fizgaloms.proofs.Trying.{refused_with}
use Rattle.fizgaloms.proofs.transacting.go_through.Goals as goal

pub returns-in_err-begin-clause-stops : goal.returns-in_err-begin-clause-stops
returns-in_err-begin-clause-stops g c =
    let p = err_from_is_err_and c.from_residual.result
    c.from_residual.ensures.1 in
    refused_with (λ e. Stops g.J.Naming.origin (g.T.Transaction.refuses c.args.transaction.now)
    c.args.client.now e c.begin.new.client) c.from_residual.result p.0
    c.in_err-begin.field-0.0 p.1 p.2 (inl c.in_err-begin.ensures.refused)

pub returns-in_err-output-clause-tried : goal.returns-in_err-output-clause-tried
returns-in_err-output-clause-tried g c =
    let begun = c.in_ok-begin.ensures in let made = c.in_err-output.ensures.attempt in
    let p = err_from_is_err_and c.from_residual-in_err-output.result
    c.from_residual-in_err-output.ensures.1 in
    refused_with (λ e. (tried : List Action) × Tried g.J.Naming.origin c.args.client.now tried
    c.attempt.new.self) c.from_residual-in_err-output.result p.0 c.in_err-output.field-0.0 p.1 p.2 (
      begun.tried.0 ++ made.0,
      tried_then g.J.Naming c.args.client.now c.begin.new.client c.attempt.new.self begun.tried.0
          made.0 begun.tried.1 (tried_attempted g.J.Naming (number_of c.begin.new.client.phase)
          c.begin.new.client c.attempt.new.self made.0
          (begun_is g.J.Naming c.args.client.now c.begin.new.client begun.begun) made.1),
    )

pub returns-in_err-output-clause-stops : goal.returns-in_err-output-clause-stops
returns-in_err-output-clause-stops g c =
    let made = c.in_err-output.ensures.attempt in
    let p = err_from_is_err_and c.from_residual-in_err-output.result
    c.from_residual-in_err-output.ensures.1 in
    refused_with (λ e. Stops g.J.Naming.origin (g.T.Transaction.refuses c.args.transaction.now)
    c.args.client.now e c.attempt.new.self) c.from_residual-in_err-output.result p.0
    c.in_err-output.field-0.0 p.1 p.2 (inr (
      c.begin.new.client,
      c.in_ok-begin.ensures.begun,
      (made.0, inl (made.1, made.2)),
    ))

pub returns-in_err-ticket-clause-tried : goal.returns-in_err-ticket-clause-tried
returns-in_err-ticket-clause-tried g c =
    let begun = c.in_ok-begin.ensures in let made = c.in_ok-output.ensures.attempt in
    let p = err_from_is_err_and c.from_residual-in_err-ticket.result
    c.from_residual-in_err-ticket.ensures.1 in
    let one = tried_then g.J.Naming c.args.client.now c.begin.new.client c.attempt.new.self
    begun.tried.0 made.0 begun.tried.1
    (tried_attempted g.J.Naming (number_of c.begin.new.client.phase) c.begin.new.client
    c.attempt.new.self made.0
    (begun_is g.J.Naming c.args.client.now c.begin.new.client begun.begun) made.1) in
    let two = tried_commit g.J.Naming c.attempt.new.self.phase c.attempt.new.self c.commit.new.self
    c.in_err-ticket.field-0.0 refl c.in_err-ticket.ensures.step in
    refused_with (λ e. (tried : List Action) × Tried g.J.Naming.origin c.args.client.now tried
    c.commit.new.self) c.from_residual-in_err-ticket.result p.0 c.in_err-ticket.field-0.0 p.1 p.2 (
      (begun.tried.0 ++ made.0) ++ two.0,
      tried_then g.J.Naming c.args.client.now c.attempt.new.self c.commit.new.self
          (begun.tried.0 ++ made.0) two.0 one two.1,
    )

pub returns-in_err-ticket-clause-stops : goal.returns-in_err-ticket-clause-stops
returns-in_err-ticket-clause-stops g c =
    let made = c.in_ok-output.ensures.attempt in
    let p = err_from_is_err_and c.from_residual-in_err-ticket.result
    c.from_residual-in_err-ticket.ensures.1 in
    refused_with (λ e. Stops g.J.Naming.origin (g.T.Transaction.refuses c.args.transaction.now)
    c.args.client.now e c.commit.new.self) c.from_residual-in_err-ticket.result p.0
    c.in_err-ticket.field-0.0 p.1 p.2 (inr (
      c.begin.new.client,
      c.in_ok-begin.ensures.begun,
      (made.0, inr (c.attempt.new.self, made.1, c.in_err-ticket.ensures.step)),
    ))

pub returns-clause-committed : goal.returns-clause-committed
returns-clause-committed g c =
    has_committed g.J.Naming c.attempt.new.self.phase c.attempt.new.self c.commit.new.self
    c.in_ok-ticket.ticket c.in_ok-ticket.ensures.step

pub returns-clause-ran : goal.returns-clause-ran
returns-clause-ran g c =
    let begun = c.in_ok-begin.ensures in let made = c.in_ok-output.ensures.attempt in
    ran_through g.J.Naming (g.T.Transaction.refuses c.args.transaction.now)
    (g.T.Transaction.says c.args.transaction.now c.in_ok-output.output) c.args.client.now
    c.begin.new.client c.attempt.new.self c.commit.new.self begun.tried.0 made.0
    c.in_ok-ticket.ticket begun.tried.1 begun.begun made.1 made.2 c.in_ok-ticket.ensures.step
    c.in_ok-ticket.ensures.phase
