use Rattle.boost.proofs.EffectLemmas.{untouched_leaves}
use Rattle.boost.proofs.commands.carry_out.Goals as goal

pub returns-in_default-clause-any_moment : goal.returns-in_default-clause-any_moment
returns-in_default-clause-any_moment g c =
    untouched_leaves g.D.Disk c.args.disk (g.met.D.Disk.only_now c.args.disk) c.args.task.now
    c.args.script.now
