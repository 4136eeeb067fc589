use Rattle.std.proofs.Common.{Ok, Err, subst}
use Rattle.std.proofs.lemmas.Result.{err_from_is_err_and}
use Rattle.desks.specs.TakenBack.{TakesBack}
use Rattle.clients.specs.declared.phase.Phase.{Phase}
use Rattle.clients.proofs.Seeing.{acts_back}
use Rattle.clients.proofs.Visits.{own_held, taken_back, taken_whole}
use Rattle.clients.proofs.client.Client.end_held.Goals as goal

pub abort-requires-clause-own : goal.abort-requires-clause-own
abort-requires-clause-own g c =
    let i = c.self.inside in
    own_held i.line i.watcher i.drawer i.phase c.args.self.now c.args.handle.number c.self.view_is
    c.requires c.self.invariant.own

pub invariant_of-self : goal.invariant_of-self
invariant_of-self g c =
    let i = c.self.inside in
    taken_back g.J.Naming i.line c.abort.new.me i.watcher i.drawer i.phase c.self.invariant
    c.args.handle.number _ c.abort.ensures

pub invariant_of-self-2 : goal.invariant_of-self-2
invariant_of-self-2 g c =
    let i = c.self.inside in
    rw c.close.ensures (taken_whole g.J.Naming i.line c.abort.new.me i.watcher i.drawer i.phase
    c.self.invariant c.args.handle.number _ c.abort.ensures)

pub returns-clause-step : goal.returns-clause-step
returns-clause-step g c =
    let i = c.self.inside in
    rw c.close.ensures (acts_back g.J.Naming i.line c.abort.new.me i.watcher i.drawer i.phase
    Phase.Closed c.args.self.now c.args.handle.number (Ok tt) c.self.view_is
    (subst (λ r. TakesBack g.J.Naming.origin i.line c.args.handle.number r c.abort.new.me)
    c.in_ok-abort.was c.abort.ensures))

pub returns-in_err-abort-clause-step : goal.returns-in_err-abort-clause-step
returns-in_err-abort-clause-step g c =
    let p = err_from_is_err_and c.from_residual.result c.from_residual.ensures.1 in
    let i = c.self.inside in
    rw (p.1, p.2) (acts_back g.J.Naming i.line c.abort.new.me i.watcher i.drawer i.phase
    i.phase c.args.self.now c.args.handle.number (Err c.in_err-abort.field-0.0) c.self.view_is
    (subst (λ r. TakesBack g.J.Naming.origin i.line c.args.handle.number r c.abort.new.me)
    c.in_err-abort.was c.abort.ensures))
