use Rattle.std.proofs.Common.{None, Err, refl, sym, ap, ◌∙◌}
use Rattle.std.proofs.lemmas.Result.{IfErr-weaker}
use Rattle.txn.specs.declared.actions.Action.{Action}
use Rattle.txn.specs.declared.actions.Target.{Target}
use Rattle.clients.specs.declared.phase.Phase.{Phase}
use Rattle.clients.specs.Known.{Known}
use Rattle.clients.specs.Calls.{number_in}
use Rattle.clients.proofs.Visits.{entered_own, found_client, is_entered, took_on, always}
use Rattle.clients.proofs.client.Client.find.Goals as goal

pub find_for_ask-requires-clause-own : goal.find_for_ask-requires-clause-own
find_for_ask-requires-clause-own g c =
    let i = c.self.inside in
    entered_own g.J.Naming c.args.self.now c.enter.new.self c.in_ok-number.number
    c.in_ok-number.ensures i.line i.watcher i.drawer i.phase c.self.view_is c.self.invariant.own

pub invariant_of-self : goal.invariant_of-self
invariant_of-self g c =
    let i = c.self.inside in
    found_client g.J.Naming i.line c.find_for_ask.new.me i.watcher i.drawer i.phase
    c.self.invariant
    c.find_for_ask.result _ c.find_for_ask.ensures.ok c.find_for_ask.ensures.err

pub returns-clause-err : goal.returns-clause-err
returns-clause-err g c =
    let i = c.self.inside in
    let n = c.in_ok-number.number in
    IfErr-weaker c.find_for_ask.result _ _ (λ e steps. took_on g.J.Naming c.args.self.now
    c.enter.new.self n c.in_ok-number.ensures i.line i.watcher i.drawer i.phase c.self.view_is
    c.find_for_ask.new.me _ _ (Action.Ask n (Target.Named c.args.request.now.name.now None)
    c.args.request.now.call.now c.args.request.now.when (Err e))
    (None, refl) steps) c.find_for_ask.ensures.err

pub returns-clause-entered : goal.returns-clause-entered
returns-clause-entered g c =
    let i = c.self.inside in
    let entered = ap (λ (k : Known). k.phase) c.self.view_is ∙
    is_entered g.J.Naming c.args.self.now c.enter.new.self c.in_ok-number.number
    c.in_ok-number.ensures in
    always (entered ∙ ap (λ (k : Known). Phase.Entered (number_in k.phase)) (sym c.self.view_is))
    c.find_for_ask.result
