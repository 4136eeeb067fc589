use Rattle.engine.proofs.OfBook.{of_step, ask_same}
use Rattle.world.proofs.CoreLemmas.{ask_taken}
use Rattle.world.proofs.world.World.ask.Goals as goal

pub returns : goal.returns
returns g c =
    rw (← c.self.view_is)
    (ask_taken g.D.Disk _ (g.met.D.Disk.only_now c.self.inside.keeper.disk) c.ask-replied.new.self
    c.upheld.ensures.records c.args.number c.args.collection c.args.asked.now c.args.when
    c.ask-replied.result c.ask-replied.ensures.answer)

pub invariant_of-self : goal.invariant_of-self
invariant_of-self g c = (
  c.self.invariant.0,
  of_step c.self.inside.book c.ask-replied.new.self c.self.inside.gather c.ask-replied.result
      c.ask-replied.ensures.goes
      (ask_same c.self.inside.book c.ask-replied.new.self c.args.number c.args.collection
      c.args.asked.now c.args.when c.ask-replied.result
      c.ask-replied.ensures.answer)
      c.self.invariant.1,
)
