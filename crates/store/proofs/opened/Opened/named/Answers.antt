use Rattle.std.proofs.Common.{sym, subst}
use Rattle.desks.specs.Told.{told_book}
use Rattle.store.specs.Openings.{OpenedState, IsNamed}
use Rattle.store.proofs.Opening.{named_book}
use Rattle.store.proofs.VaultSteps.{vault_opens}
use Rattle.store.proofs.opened.Opened.named.Goals as goal

pub new-requires-4-clause-parts : goal.new-requires-4-clause-parts
new-requires-4-clause-parts g c =
    let n = subst (IsNamed g.J.Naming g.D.Disk) (sym c.self.view_is) c.requires in (
      c.into_shelves-journal.result.1,
      c.new-3.ensures.tables,
      c.new-3.ensures.known,
      c.into_shelves-journal.ensures.book,
      named_book g.B.Parts.collections c.self.inside.book _ c.into_shelves-journal.ensures.whole
          g.J.Naming.origin.format g.J.Naming.origin.start g.J.Naming.origin.next
          g.J.Naming.origin.wear c.self.invariant.2
          n.format n.start n.next n.wear,
    )

pub new-requires-5-clause-received : goal.new-requires-5-clause-received
new-requires-5-clause-received g c =
    let o : OpenedState _ = record {
      book = told_book g.B.Parts.collections c.self.inside.book;
      keeper = c.self.inside.keeper;
      tables = c.self.inside.parts;
    } in
    λ s. vault_opens g.D.Disk g.J.Naming o
    (subst (IsNamed g.J.Naming g.D.Disk) (sym c.self.view_is) c.requires) s c.self.invariant.1
    (g.met.D.Disk.only_now o.keeper.disk)
