use Rattle.std.proofs.Common.{subst}
use Rattle.txn.specs.declared.actions.Action.{Action}
use Rattle.txn.specs.Books.{Takes}
use Rattle.catalog.specs.Meaning.{catalog_meaning, catalog_making}
use Rattle.engine.proofs.OfBook.{of_step, make_same}
use Rattle.world.proofs.CoreLemmas.{make_taken}
use Rattle.world.proofs.world.World.make.Goals as goal

pub returns : goal.returns
returns g c =
    let w = c.self.inside in
    rw (← c.self.view_is)
    (make_taken g.D.Disk (record {
      book =
          w.book;
      gather = w.gather;
      keeper = w.keeper;
      transit = w.transit.blocks.items;
      mark = w.mark;
      next = w.next;
      undoing = w.undoing;
      frozen = w.frozen;
    })
    (g.met.D.Disk.only_now w.keeper.disk)
    c.make-made.new.self c.upheld.ensures.records c.args.name.now c.args.kind c.make-made.result
    (subst (λ n. Takes catalog_meaning catalog_making w.book
    (Action.Make n c.args.kind c.make-made.result) c.make-made.new.self) c.as_str.ensures
    c.make-made.ensures.answer))

pub invariant_of-self : goal.invariant_of-self
invariant_of-self g c = (
  c.self.invariant.0,
  of_step c.self.inside.book c.make-made.new.self c.self.inside.gather c.make-made.result
      c.make-made.ensures.goes
      (make_same c.self.inside.book c.make-made.new.self c.args.name.now c.args.kind
      c.make-made.result
      (subst (λ n. Takes catalog_meaning catalog_making c.self.inside.book
      (Action.Make n c.args.kind c.make-made.result) c.make-made.new.self) c.as_str.ensures
      c.make-made.ensures.answer))
      c.self.invariant.1,
)
