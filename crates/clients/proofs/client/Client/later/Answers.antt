use Rattle.std.proofs.Common.{Ok, Err}
use Rattle.std.proofs.lemmas.Result.{err_from_is_err_and}
use Rattle.calls.specs.declared.when.When.{When}
use Rattle.clients.specs.Calls.{AsksFor}
use Rattle.clients.proofs.Deferring.{room_replied, is_done}
use Rattle.clients.proofs.client.Client.later.Goals as goal

pub returns-in_err-ask-clause-step : goal.returns-in_err-ask-clause-step
returns-in_err-ask-clause-step g c =
    let p = err_from_is_err_and c.from_residual.result c.from_residual.ensures.1 in
    rw (p.1, p.2) (room_replied g.J.Naming c.args.self.now.phase c.args.self.now
    (AsksFor c.args.name.now c.args.call.now When.AtCommit) c.ask.result
    (Err c.in_err-ask.field-0.0) c.ask.new.self c.in_err-ask.was c.ask.ensures.step)

pub returns-clause-step : goal.returns-clause-step
returns-clause-step g c = room_replied g.J.Naming c.args.self.now.phase c.args.self.now
    (AsksFor c.args.name.now c.args.call.now When.AtCommit) c.ask.result (Ok tt) c.ask.new.self
    (is_done c.ask.result c.in_ok-ask.field-0 c.in_ok-ask.was c.ask.ensures.deferred)
    c.ask.ensures.step
