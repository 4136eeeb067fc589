use Rattle.std.proofs.Common.{All, take_all, subst, sym, refl, Result, IsOk}
use Rattle.std.proofs.lemmas.List.Elements.{All-more}
use Rattle.calls.specs.declared.refusal.Refusal.{Refusal}
use Rattle.fizgaloms.proofs.running.all_ended.Goals as goal

pub loop-end-preserved : goal.loop-end-preserved
loop-end-preserved g c =
    let is_ok = λ (end : Result g.row.T.Denot Refusal). IsOk end in
    All-more is_ok c.args.ended.now c.loop-end.end-index c.end-item.result c.loop-end-test.true
    c.loop-end.invariant (subst is_ok c.end-item.is (subst is_ok (sym c.in_default.is) refl))

pub returns : goal.returns
returns g c = subst (All (λ (end : Result g.row.T.Denot Refusal). IsOk end))
    (take_all c.loop-end.end-index c.args.ended.now c.loop-end-test.false) c.loop-end.invariant
