use Rattle.std.proofs.Common.{refl, arith, Ok, Err}
use Rattle.calls.specs.declared.refusal.Refusal.{Refusal}
use Rattle.world.proofs.CoreLemmas.{draw_taken}
use Rattle.world.proofs.world.World.draw.Goals as goal

pub returns-then-self-ge-NUMBER_END : goal.returns-then-self-ge-NUMBER_END
returns-then-self-ge-NUMBER_END g c =
    rw (← c.self.view_is) (draw_taken g.D.Disk _ (g.met.D.Disk.only_now c.self.inside.keeper.disk)
    (Err Refusal.Worn) c.self.inside.next (c.if-self-ge-NUMBER_END.true, refl))

pub returns : goal.returns
returns g c =
    rw (← c.self.view_is)
    (draw_taken g.D.Disk _ (g.met.D.Disk.only_now c.self.inside.keeper.disk) (Ok c.self.inside.next)
    _ (refl, omega (arith, c.if-self-ge-NUMBER_END.false), refl))
