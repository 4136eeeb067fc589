use Rattle.std.proofs.Common.{[], Ok, Err, refl, sym, ap, ◌∙◌, subst}
use Rattle.std.proofs.lemmas.Result.{err_from_is_err_and}
use Rattle.txn.specs.Shelved.{entered}
use Rattle.txn.specs.declared.actions.Action.{Action}
use Rattle.clients.specs.declared.phase.Phase.{Phase}
use Rattle.desks.specs.Seen.{Steps}
use Rattle.clients.specs.Known.{Known, known_of}
use Rattle.clients.specs.Calls.{Acts, Enters}
use Rattle.clients.proofs.Seeing.{acts_one}
use Rattle.clients.proofs.Visits.{enters_on}
use Rattle.clients.proofs.client.Client.enter.Goals as goal

pub invariant_of-self-in-Drawn : goal.invariant_of-self-in-Drawn
invariant_of-self-in-Drawn g c =
    let i = c.self.inside in
    let n = c.in-Drawn.number in
    rw c.enter.ensures.drawer (enters_on g.J.Naming i.line c.enter.new.me i.watcher i.drawer i.phase
    c.self.invariant n
    (subst (λ r. Steps g.J.Naming.origin i.line (Action.Enter n (entered r)) c.enter.new.me)
    c.in_ok-slot-in-Drawn.was c.enter.ensures.step))

pub returns-in_ok-slot-in-Drawn : goal.returns-in_ok-slot-in-Drawn
returns-in_ok-slot-in-Drawn g c =
    let i = c.self.inside in
    let n = c.in-Drawn.number in
    let after = known_of c.enter.new.me i.watcher i.drawer (Phase.Entered n) in
    let action = Action.Enter n (Ok tt) in
    rw c.enter.ensures.drawer (subst (λ p. Enters g.J.Naming.origin p c.args.self.now (Ok n) after)
    (sym (ap (λ (k : Known). k.phase) (sym c.self.view_is) ∙ c.in-Drawn.is)) (
      refl,
      subst (λ m. Acts g.J.Naming.origin m [] action after) c.self.view_is
          (acts_one g.J.Naming i.line c.enter.new.me i.watcher i.drawer i.phase (Phase.Entered n)
          action (subst (λ r. Steps g.J.Naming.origin i.line (Action.Enter n (entered r))
          c.enter.new.me)
          c.in_ok-slot-in-Drawn.was c.enter.ensures.step)),
      refl,
    ))

pub returns-in_err-slot-in-Drawn : goal.returns-in_err-slot-in-Drawn
returns-in_err-slot-in-Drawn g c =
    let p = err_from_is_err_and c.from_residual.result c.from_residual.ensures.1 in
    let i = c.self.inside in
    let n = c.in-Drawn.number in
    let e = c.in_err-slot-in-Drawn.field-0.0 in
    let after = known_of c.enter.new.me i.watcher i.drawer i.phase in
    let action = Action.Enter n (Err e) in
    rw (p.1, p.2, c.enter.ensures.drawer)
    (subst (λ q. Enters g.J.Naming.origin q c.args.self.now (Err e) after)
    (sym (ap (λ (k : Known). k.phase) (sym c.self.view_is) ∙ c.in-Drawn.is)) (
      subst (λ m. Acts g.J.Naming.origin m [] action after) c.self.view_is
          (acts_one g.J.Naming i.line c.enter.new.me i.watcher i.drawer i.phase i.phase action
          (subst (λ r. Steps g.J.Naming.origin i.line (Action.Enter n (entered r)) c.enter.new.me)
          c.in_err-slot-in-Drawn.was c.enter.ensures.step)),
      c.in-Drawn.is,
    ))
