use Rattle.boost_main.proofs.TalkingLemmas.{told_since_new}
use Rattle.boost_main.proofs.doorway.DoorwayWork.work.Goals as goal

pub returns : goal.returns
returns g c = told_since_new g.J.Naming.origin c.args.client.now c.do_part-ended.new.client
    c.new-told.result.told c.do_part-ended.new.told.told c.requires c.new-told.ensures
    c.do_part-ended.ensures
