use Rattle.engine.proofs.OfBook.{of_step, ended_same}
use Rattle.world.proofs.CoreLemmas.{ended_taken}
use Rattle.world.proofs.world.World.ended.Goals as goal

pub returns : goal.returns
returns g c =
    rw (← c.self.view_is)
    (ended_taken g.D.Disk _ (g.met.D.Disk.only_now c.self.inside.keeper.disk) c.ended-ended.new.self
    c.upheld.ensures.records c.args.number c.ended-ended.result c.ended-ended.ensures.answer)

pub invariant_of-self : goal.invariant_of-self
invariant_of-self g c = (
  c.self.invariant.0,
  of_step c.self.inside.book c.ended-ended.new.self c.self.inside.gather c.ended-ended.result
      c.ended-ended.ensures.goes
      (ended_same c.self.inside.book c.ended-ended.new.self c.args.number c.ended-ended.result
      c.ended-ended.ensures.answer)
      c.self.invariant.1,
)
