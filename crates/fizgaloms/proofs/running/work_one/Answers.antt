use Rattle.std.proofs.Common.{ap, sym, subst}
use Rattle.std.specs.Prelude.{Contains}
use Rattle.clients.specs.Known.{SeenState}
use Rattle.fizgaloms.proofs.running.work_one.Goals as goal

pub returns : goal.returns
returns g c =
    let known = c.work-answer.new.client in
    let ended = c.take_back_at_last.new.client in
    let still = c.take_back_at_last.ensures in
    let left = c.leave.ensures in record {
      known = known;
      said = c.work-answer.ensures;
      client = record { number = ended.number; seen = ended.seen };
      alone = ap (λ (s : SeenState). s.clients) left;
      number = still.number;
      seen = still.seen;
      loaded = λ count some. subst (λ (s : SeenState). Contains s.counts count) (sym left)
          (still.counts count some);
    }
