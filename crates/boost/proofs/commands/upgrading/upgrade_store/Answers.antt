use Rattle.std.proofs.Common.{inr}
use Rattle.boost.proofs.EffectLemmas.{done_of, refused_leaves}
use Rattle.boost.proofs.commands.upgrading.upgrade_store.Goals as goal

pub returns-in-Ok-clause-done : goal.returns-in-Ok-clause-done
returns-in-Ok-clause-done g c =
    done_of c.tell_upgraded.result
    (λ honest. record {
      upgraded = c.in-Ok.ensures.upgraded honest;
      at_rest = c.in-Ok.ensures.durable honest;
    })

pub returns-in-Ok-clause-left : goal.returns-in-Ok-clause-left
returns-in-Ok-clause-left g c = record {
  ends = inr (inr (λ honest. record {
    upgraded = c.in-Ok.ensures.upgraded honest;
    at_rest = c.in-Ok.ensures.durable honest;
  }));
  any_moment = c.in-Ok.ensures.kept;
}

pub returns-in-Err-clause-done : goal.returns-in-Err-clause-done
returns-in-Err-clause-done g c = tt

pub returns-in-Err-clause-left : goal.returns-in-Err-clause-left
returns-in-Err-clause-left g c = record {
  ends = refused_leaves g.D.Disk c.args.disk c.in-Err.disk _ _ _ c.in-Err.refusal
      c.in-Err.ensures.refused c.in-Err.ensures.left;
  any_moment = c.in-Err.ensures.kept_in_refusal;
}
