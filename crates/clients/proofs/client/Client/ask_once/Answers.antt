use Rattle.std.proofs.Common.{◌≡◌, Err, IfSome, IsNone, Option, Result, refl, ap, subst}
use Rattle.std.proofs.lemmas.Result.{IfOk-weaker}
use Rattle.calls.specs.declared.refusal.Refusal.{Refusal}
use Rattle.calls.specs.declared.reply.Reply.{Reply}
use Rattle.clients.specs.declared.phase.Phase.{Phase}
use Rattle.clients.specs.Calls.{AsksFor, Does, IsEntering}
use Rattle.clients.proofs.Seeing.{does_entering, does_refused_so, entering_again}
use Rattle.clients.proofs.client.Client.ask_once.Goals as goal

pub returns-in-Err-clause-done : goal.returns-in-Err-clause-done
returns-in-Err-clause-done g c = does_refused_so g.J.Naming c.args.self.now.phase
    c.args.self.now c.place_of.new.self _ _ _ _ (λ d is. ap Err is) c.in-Err.ensures.err

-- asked behind the finding
pub returns-in-Some-clause-done : goal.returns-in-Some-clause-done
returns-in-Some-clause-done g c =
    let mid = c.place_of.new.self in
    let wanted = c.args.request.now in
    rw c.remember.ensures (does_entering g.J.Naming c.args.self.now.phase c.args.self.now mid
    c.ask_at.new.self _ _ _ refl c.in-Ok.ensures.ok
    (subst (λ (o : Option (Result Reply Refusal)). IfSome o (λ r. Does g.J.Naming.origin mid.phase
    mid (AsksFor wanted.name.now wanted.call.now wanted.when r) (λ e. r ≡ Err e)
    (λ n. Phase.Entered n) c.ask_at.new.self)) c.in-Some.is c.in_ok-answer.ensures.done))

-- or elsewhere, under all locks
pub returns-in-None-clause-done : goal.returns-in-None-clause-done
returns-in-None-clause-done g c =
    let mid = c.place_of.new.self in
    let tried = c.ask_at.new.self in
    let elsewhere = subst (λ (o : Option (Result Reply Refusal)). IsNone o →
    IsEntering g.J.Naming.origin mid.phase mid tried) c.in-None.is
    c.in_ok-answer.ensures.elsewhere refl in
    IfOk-weaker c.ask_on_all.result _ _ (λ r does. does_entering g.J.Naming c.args.self.now.phase
    c.args.self.now tried c.ask_on_all.new.self _ _ _ refl
    (entering_again g.J.Naming c.args.self.now.phase c.args.self.now mid tried refl
    c.in-Ok.ensures.ok elsewhere) does) c.ask_on_all.ensures.done
