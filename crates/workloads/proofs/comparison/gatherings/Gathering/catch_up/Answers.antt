use Rattle.workloads.proofs.Going.{goes_repeated}
use Rattle.workloads.proofs.comparison.gatherings.Gathering.catch_up.Goals as goal

pub returns : goal.returns
returns c =
    let s = c.args.self.now in
    goes_repeated s.catalog s.gather s.effects.items s.lsn c.requires c.catch_up.new.self
    c.catch_up.ensures.repeats
