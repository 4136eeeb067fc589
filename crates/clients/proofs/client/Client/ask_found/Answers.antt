use Rattle.std.proofs.Common.{Ok, refl, sym, ap, ◌∙◌, subst}
use Rattle.txn.specs.declared.actions.Action.{Action}
use Rattle.txn.specs.declared.actions.Target.{Target}
use Rattle.clients.specs.Calls.{Enters}
use Rattle.clients.specs.declared.phase.Phase.{Phase}
use Rattle.clients.proofs.Visits.{own_held, steps_on, took_on}
use Rattle.clients.proofs.client.Client.ask_found.Goals as goal

pub ask_found-requires-clause-own : goal.ask_found-requires-clause-own
ask_found-requires-clause-own g c =
    let i = c.self.inside in
    own_held i.line i.watcher i.drawer i.phase c.args.self.now c.number-number.result c.self.view_is
    (c.requires.entered ∙ ap (λ n. Phase.Entered n) (sym c.number-number.ensures))
    c.self.invariant.own

pub invariant_of-self : goal.invariant_of-self
invariant_of-self g c =
    let i = c.self.inside in
    steps_on g.J.Naming i.line c.ask_found.new.me i.watcher i.drawer i.phase c.self.invariant
    (Action.Ask c.number-number.result
    (Target.Named c.args.request.now.name.now c.ask_found.ensures.step.0)
    c.args.request.now.call.now c.args.request.now.when c.ask_found.result)
    c.ask_found.ensures.step.1

pub returns-clause-done : goal.returns-clause-done
returns-clause-done g c =
    let i = c.self.inside in
    let n = c.number-number.result in
    let k = c.args.self.now in
    let entered = c.requires.entered ∙ ap (λ m. Phase.Entered m) (sym c.number-number.ensures) in
    took_on g.J.Naming k k n
    (subst (λ q. Enters g.J.Naming.origin q k (Ok n) k) (sym entered) (refl, refl)) i.line
    i.watcher i.drawer i.phase c.self.view_is c.ask_found.new.me _ _
    (Action.Ask n (Target.Named c.args.request.now.name.now c.ask_found.ensures.step.0)
    c.args.request.now.call.now c.args.request.now.when c.ask_found.result)
    (c.ask_found.ensures.step.0, refl) c.ask_found.ensures.step.1
