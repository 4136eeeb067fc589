use Rattle.std.proofs.Common.{sym, subst}
use Rattle.std.specs.Result.{IfErr}
use Rattle.replay.specs.declared.stage.Stage.{Stage}
use Rattle.replay.specs.Repetitions.{IsDamageOr, IsNoStep}
use Rattle.replay.proofs.RepeatLemmas.{ok_weaker, err_weaker, damage_weaker}
use Rattle.replay.proofs.ReadLemmas.{is_behind, live_takes, live_stuck, unclosed_stuck}
use Rattle.replay.proofs.stage.Collections.read.Goals as goal

pub returns-in-Err : goal.returns-in-Err
returns-in-Err c =
    let behind = is_behind c.args.entry c.in_default.not-Name c.in_default.not-Item in
    record {
      ok = tt;
      fit = tt;
      few = tt;
      err = damage_weaker c.args.place c.in-Err.refusal _ _
          (λ open_still n. unclosed_stuck n c.args.self.loader _ open_still c.args.entry behind)
          c.in-Err.ensures.err;
    }

pub returns-in-Name-clause-err : goal.returns-in-Name-clause-err
returns-in-Name-clause-err c = subst
    (λ r. IfErr c.name.result (IsDamageOr c.args.place
    (IsNoStep (Stage.Collections c.args.self) r))) (sym c.in-Name.is) c.name.ensures.err

pub returns-in-Item-clause-err : goal.returns-in-Item-clause-err
returns-in-Item-clause-err c = subst
    (λ r. IfErr c.item.result (IsDamageOr c.args.place
    (IsNoStep (Stage.Collections c.args.self) r))) (sym c.in-Item.is) c.item.ensures.err

pub returns-in-Ok : goal.returns-in-Ok
returns-in-Ok c =
    let behind = is_behind c.args.entry c.in_default.not-Name c.in_default.not-Item in
    let closes = c.in-Ok.ensures.ok in
    record {
      ok = ok_weaker c.read_live.result _ _
          (λ stage leads n. live_takes n c.args.self.loader _ c.args.entry behind c.in-Ok.loader
          closes stage (leads n)) c.read_live.ensures.ok;
      fit = c.read_live.ensures.fit;
      few = c.read_live.ensures.few;
      err = err_weaker c.read_live.result c.args.place _ _
          (λ none n. live_stuck n c.args.self.loader _ c.args.entry behind c.in-Ok.loader closes
          none) c.read_live.ensures.err;
    }
