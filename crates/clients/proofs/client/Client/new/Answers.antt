use Rattle.std.proofs.Common.{sym, subst, refl}
use Rattle.txn.specs.Rows.{opening}
use Rattle.desks.specs.Seen.{IsSeen}
use Rattle.desks.proofs.Owning.{owned_none}
use Rattle.clients.proofs.client.Client.new.Goals as goal

pub invariant_of-result : goal.invariant_of-result
invariant_of-result g c = record {
  line_is = c.requires.line.0;
  mark_is = c.requires.watcher.0;
  numbers_is = c.requires.drawer.0;
  from = c.requires.drawer.1;
  number = c.requires.number;
  legal = subst (IsSeen g.J.Naming.origin) (sym c.requires.line.1) (
    opening g.J.Naming.origin.format g.J.Naming.origin.start g.J.Naming.origin.wear,
    record { legal = refl; owned = owned_none },
  );
  own = tt;
}
