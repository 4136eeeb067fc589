use Rattle.std.proofs.Common.{refl}
use Rattle.clients.proofs.Seeing.{does_entering}
use Rattle.clients.proofs.client.Client.commit_on_few.Goals as goal

-- under all locks it is committed behind the entering
pub returns-in-None-clause-step : goal.returns-in-None-clause-step
returns-in-None-clause-step g c = does_entering g.J.Naming c.args.self.now.phase
    c.args.self.now c.commit_on.new.self c.commit_on_all.new.self _ _ _ refl
    (c.in-None.ensures.none refl) c.commit_on_all.ensures.step
