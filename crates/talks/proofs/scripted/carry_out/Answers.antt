use Rattle.std.proofs.Common.{◌≡◌, List, [], ◌∷◌, ◌++◌, ◌+◌, take, take_all, ap, sym, ◌∙◌, subst}
use Rattle.std.proofs.Common.{Option, Some, None, Vec, Global}
use Rattle.std.proofs.lemmas.List.{take_more, append-nil}
use Rattle.talks.specs.declared.transcript.Answer.{Answer}
use Rattle.script.specs.declared.line.Line.{Line}
use Rattle.talks.specs.Sessions.{Answers, CarriesOut, answers_of, session}
use Rattle.talks.proofs.SessionLemmas.{carries_on}
use Rattle.talks.proofs.scripted.carry_out.Goals.{in-Some+in_ok-push, in_default}
use Rattle.talks.proofs.scripted.carry_out.Goals as goal

-- a line more, and what it is answered
step : (g : _) (c : goal.Joined-answer g) (more : Option Answer) →
    Answers g.J.Naming.origin c.args.number (session c.loop-line.client c.loop-line.ticket)
    c.line-item.result more (session c.answer.new.client c.answer.new.ticket) →
    c.match-answer.answers.items ≡ c.loop-line.answers.items ++ answers_of more →
    CarriesOut g.J.Naming.origin c.args.number (session c.args.client.now c.args.ticket.now)
    (take (c.loop-line.line-index + 1) c.args.lines.now) c.match-answer.answers.items
    (session c.answer.new.client c.answer.new.ticket)
step g c more answered noted =
    let o = g.J.Naming.origin in
    let i = c.loop-line.line-index in
    let lines = c.args.lines.now in
    let line = c.line-item.result in
    let start = session c.args.client.now c.args.ticket.now in
    let new = session c.answer.new.client c.answer.new.ticket in
    let one_more : take (i + 1) lines ≡ take i lines ++ line ∷ [] =
    take_more lines i line c.loop-line-test.true
    ∙ ap (λ (x : Line). take i lines ++ x ∷ []) (sym c.line-item.is) in
    subst (λ (ls : List Line). CarriesOut o c.args.number start ls
    c.match-answer.answers.items new) (sym one_more)
    (subst (λ (response : List Answer). CarriesOut o c.args.number start (take i lines ++ line ∷ [])
    response new) (sym noted)
    (carries_on o c.args.number start (session c.loop-line.client c.loop-line.ticket) new
    (take i lines) line c.loop-line.answers.items more c.loop-line.invariant answered))

pub loop-line-preserved : goal.loop-line-preserved
loop-line-preserved g c = elim c.match-answer.branch [
  | in-Some+in_ok-push w ↦
      step g c (Some w.in-Some.told) w.in-Some.ensures
      (ap (λ (v : Vec Answer Global). v.items) w.answers-is ∙ w.in_ok-push.ensures.items)
  | in_default w ↦
      step g c None w.in_default.ensures
      (ap (λ (v : Vec Answer Global). v.items) w.answers-is
      ∙ sym (append-nil c.loop-line.answers.items))
]

pub returns-clause-carried : goal.returns-clause-carried
returns-clause-carried g c =
    subst (λ (ls : List Line). CarriesOut g.J.Naming.origin c.args.number
    (session c.args.client.now c.args.ticket.now) ls c.loop-line.answers.items
    (session c.loop-line.client c.loop-line.ticket))
    (take_all c.loop-line.line-index c.args.lines.now c.loop-line-test.false) c.loop-line.invariant
