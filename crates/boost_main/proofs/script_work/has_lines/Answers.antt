use Rattle.std.proofs.Common.{All, take_all, subst, sym, true≢false}
use Rattle.std.proofs.lemmas.List.Elements.{All-more}
use Rattle.script.specs.declared.line.Line.{Line}
use Rattle.boost_main.specs.Serving.{IsOfClient}
use Rattle.boost_main.proofs.script_work.has_lines.Goals as goal

pub loop-line-preserved : goal.loop-line-preserved
loop-line-preserved c =
    let others = λ (x : Line). IsOfClient c.args.client x → ⊥ in
    All-more others c.args.lines.now c.loop-line.line-index c.line-item.result
    c.loop-line-test.true c.loop-line.invariant
    (subst others c.line-item.is (λ is. true≢false (sym (c.if-is_of_client.ensures.1 is))))

pub returns : goal.returns
returns c =
    let others = λ (x : Line). IsOfClient c.args.client x → ⊥ in
    let none = subst (All others) (take_all c.loop-line.line-index c.args.lines.now
    c.loop-line-test.false) c.loop-line.invariant in (
      λ now. absurd (true≢false (sym now)),
      λ has. absurd (none has.0 has.1 has.2
          (subst (IsOfClient c.args.client) (sym has.3) has.4)),
    )
