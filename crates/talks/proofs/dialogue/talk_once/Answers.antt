use Rattle.std.proofs.Common.{Some, subst}
use Rattle.talks.specs.Dialogues.{session_speaker}
use Rattle.talks.specs.Talks.{TalksOn}
use Rattle.talks.proofs.LeadLemmas.{talk_leads}
use Rattle.talks.proofs.dialogue.talk_once.Goals as goal

pub returns-clause-told : goal.returns-clause-told
returns-clause-told g c =
    let talked = c.talk.ensures.talked in
    let before = c.args.hearer.now.noted.told in
    let after = c.talk.new.hearer.noted.told in
    let lines = g.I.Read.remaining c.args.lines.now in
    let left = g.I.Read.remaining c.talk.new.lines in
    talk_leads g.J.Naming.origin lines left c.args.session.now.known before after
    c.talk.result.why talked.0 c.talk.new.speaker c.talk.result.is_taken_back
    (subst (λ s. TalksOn (session_speaker g.J.Naming.origin) lines left (Some before) (Some after)
    s c.talk.result.why talked.0) c.begin_anew.ensures talked.1) talked.2
