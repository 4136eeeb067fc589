use Rattle.std.proofs.Common.{subst, refl}
use Rattle.std.proofs.lemmas.Option.{IfSome_then}
use Rattle.steps.specs.Looks.{IsLooked}
use Rattle.txn.specs.declared.actions.Action.{Action}
use Rattle.txn.specs.declared.actions.Target.{Target}
use Rattle.clients.proofs.Phases.{does_refused}
use Rattle.clients.proofs.Seeing.{entered_number}
use Rattle.clients.proofs.Visits.{entered_own, tried_client, took_on}
use Rattle.clients.proofs.client.Client.ask_held.Goals as goal

pub ask-requires : goal.ask-requires
ask-requires g c = record {
  line = c.self.invariant.line_is;
  own =
      let i = c.self.inside in
      entered_own g.J.Naming c.args.self.now c.enter.new.self c.in-Ok.number c.in-Ok.ensures i.line
      i.watcher i.drawer i.phase c.self.view_is c.self.invariant.own;
  place = c.requires.place;
  looked = subst (λ n. IsLooked g.B.Shelf.Boosted.meaning c.args.request.now.when
      g.J.Naming.origin.format c.args.held.now n c.args.at c.args.request.now.call.now
      c.args.looked)
      (entered_number g.J.Naming c.args.self.now.phase c.args.self.now c.enter.new.self
      c.in-Ok.number c.in-Ok.ensures) c.requires.looked;
}

pub invariant_of-self : goal.invariant_of-self
invariant_of-self g c =
    let i = c.self.inside in
    tried_client g.J.Naming i.line c.ask.new.me i.watcher i.drawer i.phase c.self.invariant
    c.ask.result _ (λ r steps. (_, steps.1)) c.ask.ensures.some
    c.ask.ensures.none

pub returns-in-Ok-clause-some : goal.returns-in-Ok-clause-some
returns-in-Ok-clause-some g c =
    let i = c.self.inside in
    let n = c.in-Ok.number in
    IfSome_then c.ask.result c.ask.ensures.some (λ r steps. took_on g.J.Naming c.args.self.now
    c.enter.new.self n c.in-Ok.ensures i.line i.watcher i.drawer i.phase c.self.view_is
    c.ask.new.me _ _ (Action.Ask n (Target.Named c.args.request.now.name.now steps.0)
    c.args.request.now.call.now c.args.request.now.when r)
    (steps.0, refl) steps.1)

pub returns-in-Err-clause-some : goal.returns-in-Err-clause-some
returns-in-Err-clause-some g c = does_refused g.J.Naming c.args.self.now.phase c.args.self.now
    _ _ _ c.in-Err.refusal c.enter.new.self c.in-Err.ensures refl

pub returns-in-Ok-clause-deferred : goal.returns-in-Ok-clause-deferred
returns-in-Ok-clause-deferred g c = c.ask.ensures.deferred
