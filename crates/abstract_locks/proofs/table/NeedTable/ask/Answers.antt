use Rattle.std.proofs.Common.{subst, rules}
use Rattle.abstract_locks.specs.Holds.{hold, IsAdded}
use Rattle.abstract_locks.proofs.table.NeedTable.ask.Goals as goal

pub returns-clause-held : goal.returns-clause-held
returns-clause-held c =
    let asked = hold c.args.owner c.args.collection c.args.need in
    subst (λ old. IsAdded old c.grant.new.self.holds asked) c.in_ok-reserve.ensures.holds
    c.grant.ensures.held

pub returns-in_err-test-clause-refused : goal.returns-in_err-test-clause-refused
returns-in_err-test-clause-refused c = search rules

pub returns-in_err-reserve-clause-refused : goal.returns-in_err-reserve-clause-refused
returns-in_err-reserve-clause-refused c = search rules

pub grant-requires-clause-clear : goal.grant-requires-clause-clear
grant-requires-clause-clear c = search rules

pub returns-clause-clear : goal.returns-clause-clear
returns-clause-clear c = search rules
