use Rattle.engine.proofs.OfBook.{of_step, enter_same}
use Rattle.world.proofs.CoreLemmas.{enter_taken}
use Rattle.world.proofs.world.World.enter.Goals as goal

pub returns : goal.returns
returns g c =
    rw (← c.self.view_is)
    (enter_taken g.D.Disk _ (g.met.D.Disk.only_now c.self.inside.keeper.disk)
    c.enter-entered.new.self c.upheld.ensures.records c.args.number c.enter-entered.result
    c.enter-entered.ensures.answer)

pub invariant_of-self : goal.invariant_of-self
invariant_of-self g c = (
  c.self.invariant.0,
  of_step c.self.inside.book c.enter-entered.new.self c.self.inside.gather c.enter-entered.result
      c.enter-entered.ensures.goes
      (enter_same c.self.inside.book c.enter-entered.new.self c.args.number c.enter-entered.result
      c.enter-entered.ensures.answer)
      c.self.invariant.1,
)
