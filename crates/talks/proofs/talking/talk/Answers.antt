use Rattle.talks.proofs.TalkLemmas.{talk_sent}
use Rattle.talks.proofs.talking.talk.Goals as goal

pub returns-clause-talked : goal.returns-clause-talked
returns-clause-talked g c = (
  c.talk_on-why.new.speaker,
  talk_sent g.S.Speaker _ _ _ _ _ _ _ c.talk_on-why.result c.talk_on-why.ensures
      c.send-sent.ensures,
  c.take_back-is_taken_back.ensures,
)
