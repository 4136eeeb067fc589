use Rattle.std.proofs.Common.{◌++◌}
use Rattle.fizgaloms.proofs.Trying.{tried_then, refused_as}
use Rattle.fizgaloms.proofs.transacting.try_once.Goals as goal

pub returns-in-Err-clause-tried : goal.returns-in-Err-clause-tried
returns-in-Err-clause-tried g c =
    let one = c.in-Err.ensures.tried in let two = c.refused_by.ensures.tried in (
      one.0 ++ two.0,
      tried_then g.J.Naming c.args.client.now c.go_through.new.client c.refused_by.new.client one.0
          two.0 one.1 two.1,
    )

pub returns-in-Err-clause-refused : goal.returns-in-Err-clause-refused
returns-in-Err-clause-refused g c =
    refused_as g.J.Naming (g.T.Transaction.refuses c.args.transaction.now) c.args.client.now
    c.go_through.new.client c.refused_by.new.client c.in-Err.refusal c.refused_by.result
    c.in-Err.ensures.stops c.refused_by.ensures.taken_back
