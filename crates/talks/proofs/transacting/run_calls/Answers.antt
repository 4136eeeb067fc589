use Rattle.std.proofs.Common.{◌≡◌, List, [], ◌∷◌, ◌++◌, ◌+◌, take, drop, refl, sym, ap, subst, ◌∙◌}
use Rattle.std.proofs.Common.{rules}
use Rattle.std.proofs.lemmas.List.{take_more}
use Rattle.script.specs.declared.action.Request.{Request}
use Rattle.talks.specs.Talks.{RunsCalls}
use Rattle.talks.proofs.TalkLemmas.{runs_on, parts_at}
use Rattle.talks.proofs.transacting.run_calls.Goals as goal

pub returns-then-is_refusal : goal.returns-then-is_refusal
returns-then-is_refusal g c =
    let calls = c.args.calls.now in
    let i = c.loop-call.call-index in (
      take i calls,
      c.call-item.result,
      drop (i + 1) calls,
      c.loop-call.responses.items,
      c.loop-call.speaker,
      c.say-response.result,
      parts_at g.S.Speaker calls i c.call-item.result c.loop-call-test.true c.call-item.is,
      c.loop-call.invariant,
      c.say-response.ensures,
      (refl, search rules),
    )

pub returns-in_default : goal.returns-in_default
returns-in_default g c =
    let calls = c.args.calls.now in
    let i = c.loop-call.call-index in (
      take i calls,
      c.call-item.result,
      drop (i + 1) calls,
      c.loop-call.responses.items,
      c.loop-call.speaker,
      c.say-response.result,
      parts_at g.S.Speaker calls i c.call-item.result c.loop-call-test.true c.call-item.is,
      c.loop-call.invariant,
      c.say-response.ensures,
      tt,
    )

pub loop-call-preserved : goal.loop-call-preserved
loop-call-preserved g c =
    let l = c.loop-call in
    let i = l.call-index in
    let calls = c.args.calls.now in
    let more : take (i + 1) calls ≡ take i calls ++ c.call-item.result ∷ [] =
    take_more calls i c.call-item.result c.loop-call-test.true
    ∙ ap (λ (r : Request). take i calls ++ r ∷ []) (sym c.call-item.is) in
    subst (λ (rs : List Request). RunsCalls g.S.Speaker c.args.speaker.now rs c.push.new.self.items
    c.say-response.new.self) (sym more)
    (subst (λ responses. RunsCalls g.S.Speaker c.args.speaker.now
    (take i calls ++ c.call-item.result ∷ []) responses c.say-response.new.self)
    (sym c.in-Ok.ensures.items)
    (runs_on g.S.Speaker c.args.speaker.now l.speaker c.say-response.new.self (take i calls)
    c.call-item.result l.responses.items c.say-response.result l.invariant c.say-response.ensures
    (search rules)))
