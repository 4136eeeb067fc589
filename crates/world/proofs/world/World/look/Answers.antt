use Rattle.world.proofs.CoreLemmas.{look_taken}
use Rattle.world.proofs.world.World.look.Goals as goal

pub returns : goal.returns
returns g c = rw (← c.self.view_is)
    (look_taken g.D.Disk _ (g.met.D.Disk.only_now c.self.inside.keeper.disk))
