use Rattle.clients.specs.Attempts.{number_of}
use Rattle.clients.proofs.Attempting.{attempt_open}
use Rattle.clients.proofs.client.Client.attempt.Goals as goal

pub returns-clause-open : goal.returns-clause-open
returns-clause-open g c =
    attempt_open g.J.Naming (g.T.Transaction.says c.args.transaction.now)
    (g.T.Transaction.refuses c.args.transaction.now)
    (number_of c.args.self.now.phase) c.args.self.now c.replace_with.new.dest
    c.replace_with.result c.replace_with.ensures
