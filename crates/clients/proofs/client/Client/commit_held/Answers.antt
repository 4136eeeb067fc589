use Rattle.std.proofs.Common.{Ok, Err, refl, subst}
use Rattle.txn.specs.declared.actions.Action.{Action}
use Rattle.desks.specs.Seen.{Steps}
use Rattle.clients.proofs.Visits.{entered_own, stays, steps_on, took_on, took_last}
use Rattle.clients.proofs.client.Client.commit_held.Goals as goal

pub commit-requires-clause-own : goal.commit-requires-clause-own
commit-requires-clause-own g c =
    let i = c.self.inside in
    entered_own g.J.Naming c.args.self.now c.enter.new.self c.in-Ok.number c.in-Ok.ensures i.line
    i.watcher i.drawer i.phase c.self.view_is c.self.invariant.own

pub invariant_of-self : goal.invariant_of-self
invariant_of-self g c =
    let i = c.self.inside in
    stays g.J.Naming i.line c.commit.new.me i.watcher i.drawer i.phase c.self.invariant
    (c.in_err-place.ensures.none refl)

pub invariant_of-self-in-Err-2 : goal.invariant_of-self-in-Err-2
invariant_of-self-in-Err-2 g c =
    let i = c.self.inside in
    let n = c.in-Ok.number in
    steps_on g.J.Naming i.line c.commit.new.me i.watcher i.drawer i.phase c.self.invariant
    (Action.Commit n (Err c.in-Err-2.refusal))
    (subst (λ r. Steps g.J.Naming.origin i.line (Action.Commit n r) c.commit.new.me) c.in-Err-2.is
    c.in_ok-place.ensures.some)

pub returns-in-Ok-2-clause-step : goal.returns-in-Ok-2-clause-step
returns-in-Ok-2-clause-step g c =
    let i = c.self.inside in
    let n = c.in-Ok.number in
    rw c.close.ensures (took_last g.J.Naming c.args.self.now c.enter.new.self n c.in-Ok.ensures
    i.line i.watcher i.drawer i.phase c.self.view_is c.commit.new.me _ _
    (Action.Commit n (Ok c.in-Ok-2.place)) refl
    (subst (λ r. Steps g.J.Naming.origin i.line (Action.Commit n r) c.commit.new.me) c.in-Ok-2.is
    c.in_ok-place.ensures.some))

pub returns-in-Err-2-clause-step : goal.returns-in-Err-2-clause-step
returns-in-Err-2-clause-step g c =
    let i = c.self.inside in
    let n = c.in-Ok.number in
    took_on g.J.Naming c.args.self.now c.enter.new.self n c.in-Ok.ensures i.line i.watcher
    i.drawer i.phase c.self.view_is c.commit.new.me _ _
    (Action.Commit n (Err c.in-Err-2.refusal)) refl
    (subst (λ r. Steps g.J.Naming.origin i.line (Action.Commit n r) c.commit.new.me) c.in-Err-2.is
    c.in_ok-place.ensures.some)
