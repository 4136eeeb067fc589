use Rattle.fizgaloms.proofs.WorkLemmas.{goes_nowhere}
use Rattle.fizgaloms.proofs.running.rest.Goals as goal

pub returns-then-is_some-clause-goes : goal.returns-then-is_some-clause-goes
returns-then-is_some-clause-goes g c =
    goes_nowhere g.D.Disk c.args.disk (g.met.D.Disk.seen_may_stay c.args.disk)
