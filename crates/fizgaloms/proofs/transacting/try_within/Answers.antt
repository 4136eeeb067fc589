use Rattle.std.proofs.Common.{refl}
use Rattle.fizgaloms.proofs.Trying.{goes_first, goes_on, gives_up, gives_up_lost, goes_through}
use Rattle.fizgaloms.proofs.Trying.{transacts_last, not_true}
use Rattle.fizgaloms.proofs.transacting.try_within.Goals as goal

pub loop-number-init : goal.loop-number-init
loop-number-init g c =
    goes_first g.J.Naming (g.T.Transaction.refuses c.args.transaction.now) c.args.attempts
    c.args.client.now c.upheld.ensures

pub returns-in-Err-2-clause-goes : goal.returns-in-Err-2-clause-goes
returns-in-Err-2-clause-goes g c =
    gives_up g.J.Naming (g.T.Transaction.refuses c.args.transaction.now) c.args.attempts
    c.args.client.now c.loop-number.client c.try_once.new.client c.loop-number._number
    c.in-Err.refusal c.loop-number.invariant c.in-Err.ensures.refused c.in-Err.ensures.tried
    (λ passing. absurd (not_true (c.if-is_passing.ensures.1 passing)))

pub returns-in-Ok-clause-goes : goal.returns-in-Ok-clause-goes
returns-in-Ok-clause-goes g c =
    goes_through g.J.Naming (g.T.Transaction.refuses c.args.transaction.now) c.args.attempts
    (g.T.Transaction.says c.args.transaction.now c.in-Ok.done.0) c.args.client.now
    c.loop-number.client c.try_once.new.client c.loop-number._number c.in-Ok.done.1.place
    c.loop-number.invariant c.in-Ok.ensures.ran

pub returns-then-has_failed-clause-goes : goal.returns-then-has_failed-clause-goes
returns-then-has_failed-clause-goes g c =
    gives_up_lost g.J.Naming (g.T.Transaction.refuses c.args.transaction.now) c.args.attempts
    c.args.client.now c.loop-number.client c.try_once.new.client c.has_failed.new.self
    c.loop-number._number c.in-Err.refusal c.loop-number.invariant (c.if-is_passing.ensures.0 refl)
    c.in-Err.ensures.refused c.in-Err.ensures.tried c.if-has_failed.ensures

pub loop-number-preserved : goal.loop-number-preserved
loop-number-preserved g c =
    goes_on g.J.Naming (g.T.Transaction.refuses c.args.transaction.now) c.args.attempts
    c.args.client.now c.loop-number.client c.try_once.new.client c.has_failed.new.self
    c.loop-number._number c.in-Err.refusal c.loop-number.invariant c.loop-number-test.true
    (c.if-is_passing.ensures.0 refl) c.in-Err.ensures.refused c.in-Err.ensures.tried
    c.if-has_failed.ensures

pub returns-clause-goes : goal.returns-clause-goes
returns-clause-goes g c =
    transacts_last g.J.Naming (g.T.Transaction.refuses c.args.transaction.now)
    (g.T.Transaction.says c.args.transaction.now) c.args.attempts
    c.args.client.now c.loop-number.client c.try_once-2.new.client c.loop-number._number
    c.try_once-2.result c.loop-number.invariant c.try_once-2.ensures.ran
    c.try_once-2.ensures.tried c.try_once-2.ensures.refused
    (λ e is passing. c.loop-number-test.false)
