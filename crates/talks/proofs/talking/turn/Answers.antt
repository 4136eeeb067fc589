use Rattle.std.proofs.Common.{[], sym, subst, ap, true≢false, ◌∙◌}
use Rattle.talks.specs.Hearing.{Hears}
use Rattle.talks.proofs.TalkLemmas.{turned, turned_silent, hears_none}
use Rattle.talks.proofs.talking.turn.Goals as goal
use Rattle.talks.proofs.talking.turn.Goals.{then-not-has_line+in_default, else-not-has_line}
use Rattle.talks.proofs.talking.turn.Goals.{in-Silence, in_default-matches}

pub returns-then-not-matches : goal.returns-then-not-matches
returns-then-not-matches g c begun begins =
    let answered = c.answer-next.ensures.answered in
    let sent : Hears (g.H.Hearer.heard c.args.hearer.now) (g.H.Hearer.heard c.if-not-has_line.hearer)
    [] =
    elim c.if-not-has_line.branch [
      | then-not-has_line+in_default w ↦ subst (λ h. Hears
          (g.H.Hearer.heard c.args.hearer.now) (g.H.Hearer.heard h) []) (sym w.hearer-is)
          w.send.ensures
      | else-not-has_line w ↦ subst (λ h. Hears (g.H.Hearer.heard c.args.hearer.now)
          (g.H.Hearer.heard h) []) (sym w.hearer-is) (hears_none _)
    ] in
    turned g.S.Speaker _ _ _ _ _ begun _ _ _ _ c.in-Ok.found c.read_line.new.line.items
    c.clear.new.self.items answered.0 answered.1 c.answer-next.result c.clear.ensures.items
    (c.in-Ok.ensures begun begins) answered.2 sent answered.3

pub returns-else-not-matches : goal.returns-else-not-matches
returns-else-not-matches g c begun begins =
    let answered = c.answer-next.ensures.answered in
    let sent : Hears (g.H.Hearer.heard c.args.hearer.now) (g.H.Hearer.heard c.if-not-has_line.hearer)
    [] =
    elim c.if-not-has_line.branch [
      | then-not-has_line+in_default w ↦ subst (λ h. Hears
          (g.H.Hearer.heard c.args.hearer.now) (g.H.Hearer.heard h) []) (sym w.hearer-is)
          w.send.ensures
      | else-not-has_line w ↦ subst (λ h. Hears (g.H.Hearer.heard c.args.hearer.now)
          (g.H.Hearer.heard h) []) (sym w.hearer-is) (hears_none _)
    ] in
    elim c.match-matches.branch [
      | in-Silence w ↦ turned_silent g.S.Speaker _ _ _ _ _ begun _ _ _ _
          c.read_line.new.line.items c.answer-next.new.pending.line.items answered.0 answered.1
          c.answer-next.result (ap (λ v. v.items) c.answer-next.ensures.line)
          (rw w.in-Silence.is at c.in-Ok.ensures begun begins) (rw w.in-Silence.is at answered.2) sent
          answered.3
      | in_default-matches w ↦ absurd
          (true≢false (sym c.if-not-matches.false ∙ w.matches-is))
    ]
