use Rattle.std.proofs.Common.{[], ◌∷◌, ◌++◌, ◌∙◌, ◌+◌, ap, refl, rules, arith, length-append}
use Rattle.talks.proofs.TalkLemmas.{tried_on, settled}
use Rattle.talks.proofs.transacting.take_back.Goals as goal

pub loop-init : goal.loop-init
loop-init g c = ([], refl, refl)

pub loop-preserved : goal.loop-preserved
loop-preserved g c =
    let tried = c.loop.invariant in (
      tried.0 ++ c.say-said.result ∷ [],
      tried_on g.S.Speaker c.args.speaker.now c.loop.speaker c.say-said.new.self tried.0
          c.say-said.result tried.1 c.say-said.ensures,
      length-append tried.0 (c.say-said.result ∷ []) ∙ ap (λ n. n + 1) tried.2,
    )

pub returns-then-not-is_open : goal.returns-then-not-is_open
returns-then-not-is_open g c =
    let tried = c.loop.invariant in (tried.0, tried.1, search rules)

pub returns : goal.returns
returns g c =
    let tried = c.loop.invariant in (
      tried.0,
      tried.1,
      settled g.S.Speaker _ c.loop.speaker c.is_open-2.result c.is_open-2.ensures
          (omega (arith, tried.2, c.loop.auto, c.loop-test.false)),
    )
