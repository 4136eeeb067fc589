use Rattle.boost.proofs.EffectLemmas.{done_of}
use Rattle.boost.proofs.commands.show_as_it_is.Goals as goal

pub returns-in-Ok-clause-done : goal.returns-in-Ok-clause-done
returns-in-Ok-clause-done g c =
    done_of c.show_collections.result
    (record {
      area = c.in-Ok.found.area;
      room = c.in-Ok.found.room;
      undone = c.in-Ok.found.machine;
      next = c.in-Ok.found.next;
      undoing = c.in-Ok.found.records.items;
      report = c.in-Ok.found.report;
      found = c.in-Ok.ensures.found;
    })
