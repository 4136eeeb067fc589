use Rattle.replay.proofs.ReadLemmas.{asked_either, number_leads, asked_leads, begin_none}
use Rattle.replay.proofs.ReadLemmas.{asked_none, other_none}
use Rattle.std.proofs.Common.{refl}
use Rattle.std.proofs.lemmas.Result.{err_from_is_err_and}
use Rattle.replay.proofs.RepeatLemmas.{damage_weaker}
use Rattle.replay.proofs.reading.read_live.Goals as goal

pub returns-in_err-hold-in-Begin-clause-err : goal.returns-in_err-hold-in-Begin-clause-err
returns-in_err-hold-in-Begin-clause-err c =
    let p = err_from_is_err_and c.from_residual.result c.from_residual.ensures.1 in
    rw (p.1, p.2)
    (damage_weaker c.args.place c.in_err-hold-in-Begin.field-0.0 _ _
    (begin_none c.args.loader c.args.entry _ c.in-Begin.is) c.in_err-hold-in-Begin.ensures.err)

pub returns-in_err-hold-in-LiveCall-clause-err : goal.returns-in_err-hold-in-LiveCall-clause-err
returns-in_err-hold-in-LiveCall-clause-err c =
    let p = err_from_is_err_and c.from_residual-in_err-hold-in-LiveCall.result
    c.from_residual-in_err-hold-in-LiveCall.ensures.1 in
    rw (p.1, p.2)
    (damage_weaker c.args.place c.in_err-hold-in-LiveCall.field-0.0 _ _
    (asked_none c.args.loader c.args.entry (asked_either c.args.entry c.in-LiveCall.is))
    c.in_err-hold-in-LiveCall.ensures.err)

pub returns-in_ok-hold-in-Begin-clause-ok : goal.returns-in_ok-hold-in-Begin-clause-ok
returns-in_ok-hold-in-Begin-clause-ok c =
    let holds = c.in_ok-hold-in-Begin.ensures in
    number_leads c.args.loader c.in_ok-hold-in-Begin.field-0 c.args.entry _ c.in-Begin.is holds.ok
    holds.alike

pub returns-in_default : goal.returns-in_default
returns-in_default c = let d = c.in_default in
    record {
      ok = tt;
      fit = tt;
      few = tt;
      err = (
        refl,
        other_none c.args.loader c.args.entry d.not-LiveCall d.not-LiveLater d.not-ImageEnd
            d.not-Begin,
      );
    }

pub returns-in_ok-hold-in-LiveCall-clause-ok : goal.returns-in_ok-hold-in-LiveCall-clause-ok
returns-in_ok-hold-in-LiveCall-clause-ok c =
    let holds = c.in_ok-hold-in-LiveCall.ensures in
    asked_leads c.args.loader c.in_ok-hold-in-LiveCall.field-0 c.args.entry
    (asked_either c.args.entry c.in-LiveCall.is) holds.ok holds.alike
