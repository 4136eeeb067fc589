use Rattle.std.proofs.Common.{[], ◌∷◌, ◌++◌, None, ap, ◌∙◌, sym, subst, length, ◌<◌, rules}
use Rattle.std.proofs.lemmas.Iterator.Adapters.{YieldsList-from_vec}
use Rattle.std.proofs.lemmas.Iterator.Consumers.{YieldsList-turn, YieldsList-end}
use Rattle.clients.specs.Known.{all_left}
use Rattle.fizgaloms.specs.Works.{AreParts, IsSaid}
use Rattle.fizgaloms.proofs.WorkLemmas.{snocs_same, parts_none, parts_more, said_at}
use Rattle.fizgaloms.proofs.running.join.Goals as goal

pub loop-one-init : goal.loop-one-init
loop-one-init g c =
    let says = g.W.Work.says c.args.work.now g.J.Naming.origin in
    let none = c.new-answers.ensures.items in (
      ap length none,
      subst (λ answers. AreParts says answers (all_left None)) (sym none) (parts_none says),
    )

pub loop-one-preserved : goal.loop-one-preserved
loop-one-preserved g c =
    let says = g.W.Work.says c.args.work.now g.J.Naming.origin in
    let l = c.loop-one in
    let ended = c.args.ended in
    let answer = c.in_ok-answer.answer in
    let seen = c.in_ok-answer.seen in
    let turn = YieldsList-turn (YieldsList-from_vec {s = c.into_iter-one-iterator.result}
    ended.items
    (search rules) (search rules)) l.yielded l.one-iterator l.yielded_by c.next.result
    c.next.new.self c.in-Some.one c.in-Some.is c.next.ensures.steps in
    let said = said_at says ended.items ended.len (length l.yielded) c.requires
    (subst (λ n. length l.yielded < n) (sym ended.ok.0) turn.0) c.in-Some.one turn.1 (answer, seen)
    c.in_ok-answer.was in (
      ap length c.in_ok-push.ensures.items
          ∙ snocs_same l.answers.items l.yielded answer c.in-Some.one l.invariant.0,
      subst (λ answers. AreParts says answers c.put_together.result)
          (sym c.in_ok-push.ensures.items)
          (subst (AreParts says (l.answers.items ++ answer ∷ [])) (sym c.put_together.ensures)
          (parts_more says l.answers.items (all_left l.last) answer seen l.invariant.1
          (subst (λ n. IsSaid says n answer seen) (sym l.invariant.0) said))),
    )

pub returns-clause-len : goal.returns-clause-len
returns-clause-len g c =
    let l = c.loop-one in
    let ended = c.args.ended in
    let end = YieldsList-end (YieldsList-from_vec {s = c.into_iter-one-iterator.result} ended.items
    (search rules) (search rules)) l.yielded l.one-iterator l.yielded_by c.next.result
    c.next.new.self c.in-None.is c.next.ensures.steps in
    l.answers.ok.0 ∙ l.invariant.0 ∙ end.1 ∙ sym ended.ok.0

pub returns-clause-parts : goal.returns-clause-parts
returns-clause-parts g c = c.loop-one.invariant.1
