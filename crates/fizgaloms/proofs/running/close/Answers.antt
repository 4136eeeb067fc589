use Rattle.std.proofs.Common.{refl, subst}
use Rattle.clients.specs.Known.{all_left}
use Rattle.fizgaloms.specs.Works.{GoesToRest}
use Rattle.fizgaloms.proofs.running.close.Goals as goal

pub returns-clause-closed : goal.returns-clause-closed
returns-clause-closed g c = record {
  left = all_left c.args.last;
  made = c.close-keeper.result.2;
  book = _;
  keeper = c.close-keeper.result.1;
  closes = c.close-keeper.ensures;
  disk = subst (λ d. GoesToRest g.D.Disk d c.rest-disk.result.0) c.into_disk.ensures
      c.rest-disk.ensures.goes;
  mark = c.mark-kept.ensures;
  parts_of = (refl, refl);
}
