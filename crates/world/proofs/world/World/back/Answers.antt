use Rattle.engine.proofs.OfBook.{of_step, back_same}
use Rattle.world.proofs.CoreLemmas.{back_taken}
use Rattle.world.proofs.world.World.back.Goals as goal

pub returns : goal.returns
returns g c =
    rw (← c.self.view_is)
    (back_taken g.D.Disk _ (g.met.D.Disk.only_now c.self.inside.keeper.disk) c.back-backed.new.self
    c.upheld.ensures.records c.args.number c.back-backed.result c.back-backed.ensures.answer)

pub invariant_of-self : goal.invariant_of-self
invariant_of-self g c = (
  c.self.invariant.0,
  of_step c.self.inside.book c.back-backed.new.self c.self.inside.gather c.back-backed.result
      c.back-backed.ensures.goes
      (back_same c.self.inside.book c.back-backed.new.self c.args.number c.back-backed.result
      c.back-backed.ensures.answer)
      c.self.invariant.1,
)
