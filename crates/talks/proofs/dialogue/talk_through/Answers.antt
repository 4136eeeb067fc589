use Rattle.std.proofs.Common.{rules}
use Rattle.talks.proofs.LeadLemmas.{so_far_none, last_lead, one_lead}
use Rattle.talks.proofs.dialogue.talk_through.Goals as goal

pub loop-init : goal.loop-init
loop-init g c = so_far_none g.J.Naming.origin c.args.session.now.known c.args.hearer.now.noted.told

pub loop-preserved : goal.loop-preserved
loop-preserved g c =
    one_lead g.J.Naming.origin c.args.session.now.known c.loop.session.known
    c.talk_once.new.session.known c.args.hearer.now.noted.told c.loop.hearer.noted.told
    c.talk_once.new.hearer.noted.told c.loop.invariant c.talk_once.ensures.told
    (c.talk_once.ensures.closed (search rules))
