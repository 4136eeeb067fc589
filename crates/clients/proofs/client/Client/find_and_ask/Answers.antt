use Rattle.std.proofs.Common.{Err, refl, ap}
use Rattle.std.proofs.lemmas.Result.{err_from_is_err_and}
use Rattle.clients.proofs.Seeing.{does_entering, does_refused_so}
use Rattle.clients.proofs.client.Client.find_and_ask.Goals as goal

pub returns-in_err-at-clause-done : goal.returns-in_err-at-clause-done
returns-in_err-at-clause-done g c =
    let p = err_from_is_err_and c.from_residual.result c.from_residual.ensures.1 in
    rw (p.1, p.2) (does_refused_so g.J.Naming c.args.self.now.phase c.args.self.now
    c.find.new.self _ _ _ _ (λ d is. ap Err is) c.in_err-at.ensures.err)

pub returns-clause-done : goal.returns-clause-done
returns-clause-done g c = rw c.remember.ensures (does_entering g.J.Naming c.args.self.now.phase
    c.args.self.now c.find.new.self c.ask_found-answer.new.self _ _ _ refl c.in_ok-at.ensures.ok
    c.ask_found-answer.ensures.done)
