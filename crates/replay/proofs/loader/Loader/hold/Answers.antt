use Rattle.replay.proofs.LoadAlikes.{live_answers_alike}
use Rattle.replay.proofs.loader.Loader.hold.Goals as goal

pub returns : goal.returns
returns g c = live_answers_alike g.B.Boosted.meaning c.args.self.now c.args.entry c.step.result
    c.step.new.self c.step.ensures
