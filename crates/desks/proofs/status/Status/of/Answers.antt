use Rattle.std.proofs.Common.{refl}
use Rattle.std.proofs.lemmas.Result.{err_from_is_err_and}
use Rattle.desks.proofs.status.Status.of.Goals as goal

pub returns-clause-told : goal.returns-clause-told
returns-clause-told g c f book same = record {
  format = c.format.ensures;
  filled = refl;
  full = refl;
  live = c.count_live.ensures;
  waiting = c.waiting.ensures;
  next = c.next.ensures;
  wear = c.wear.ensures;
  done = refl;
  collections = c.in_ok-measure.ensures.all f book same;
}

pub returns-in_err-measure-clause-refusal : goal.returns-in_err-measure-clause-refusal
returns-in_err-measure-clause-refusal g c f book same =
    let p = err_from_is_err_and c.from_residual.result c.from_residual.ensures.1 in
    rw (p.1, p.2) (c.in_err-measure.ensures.refusal f book same)
