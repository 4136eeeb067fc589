use Rattle.engine.proofs.OfBook.{of_step, commit_same}
use Rattle.world.proofs.CoreLemmas.{commit_taken}
use Rattle.world.proofs.world.World.commit.Goals as goal

pub returns : goal.returns
returns g c =
    rw (← c.self.view_is)
    (commit_taken g.D.Disk _ (g.met.D.Disk.only_now c.self.inside.keeper.disk)
    c.commit-placed.new.self c.upheld.ensures.records c.args.number c.commit-placed.result
    c.commit-placed.ensures.answer)

pub invariant_of-self : goal.invariant_of-self
invariant_of-self g c = (
  c.self.invariant.0,
  of_step c.self.inside.book c.commit-placed.new.self c.self.inside.gather c.commit-placed.result
      c.commit-placed.ensures.goes
      (commit_same c.self.inside.book c.commit-placed.new.self c.args.number c.commit-placed.result
      c.commit-placed.ensures.answer)
      c.self.invariant.1,
)
