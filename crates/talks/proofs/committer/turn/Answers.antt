use Rattle.std.proofs.Common.{◌∙◌, ap}
use Rattle.engine.specs.Rooms.{told}
use Rattle.talks.proofs.ClientLemmas.{turn_brings}
use Rattle.talks.proofs.committer.turn.Goals as goal

pub returns : goal.returns
returns g c = turn_brings g.D.Disk c.args.world.now c.cut.new.self c.cut.result c.cut.ensures
    c.turn.result c.told.result c.turn.new.self c.turn.ensures
    (c.told.ensures ∙ ap (λ o. told o c.turn.result) c.err-barred.ensures.value)
