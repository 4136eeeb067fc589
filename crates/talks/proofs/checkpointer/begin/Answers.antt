use Rattle.std.proofs.Common.{sym, ◌∙◌}
use Rattle.talks.proofs.CheckpointLemmas.{begun_before, begun_now}
use Rattle.talks.proofs.checkpointer.begin.Goals as goal

pub returns-in-Some : goal.returns-in-Some
returns-in-Some g c = begun_before g.D.Disk c.args.world.now c.in-Some.field-0
    (sym c.left.ensures ∙ c.in-Some.is)

pub returns-in-None : goal.returns-in-None
returns-in-None g c = begun_now g.D.Disk c.args.world.now c.begin_now.new.world c.begin_now.result
    (sym c.left.ensures ∙ c.in-None.is) c.begin_now.ensures
