use Rattle.boost.proofs.EffectLemmas.{done_of}
use Rattle.boost.proofs.commands.check.Goals as goal

pub returns-in-Ok-clause-done : goal.returns-in-Ok-clause-done
returns-in-Ok-clause-done g c =
    done_of c.show_counts.result
    (λ true_read. record {
      counts = c.in-Ok.counts;
      report = c.in-Ok.ensures.report true_read;
    })
