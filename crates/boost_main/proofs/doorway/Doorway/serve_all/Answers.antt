use Rattle.talks.proofs.LeadLemmas.{so_far_none, last_lead}
use Rattle.boost_main.proofs.TalkingLemmas.{next_lead}
use Rattle.boost_main.proofs.doorway.Doorway.serve_all.Goals as goal

pub loop-word-init : goal.loop-word-init
loop-word-init g c = so_far_none g.J.Naming.origin c.args.client.now c.args.told.now.told

pub loop-word-preserved : goal.loop-word-preserved
loop-word-preserved g c = next_lead g.J.Naming.origin c.args.client.now c.loop-word.client
    c.serve_next.new.client c.args.told.now.told c.loop-word.told.told c.serve_next.new.told.told
    c.loop-word.invariant c.serve_next.ensures.told
    (c.serve_next.ensures.closed c.if-not-serve_next.false)
