use Rattle.images.proofs.ImageRecords.{begun_none, begun_one}
use Rattle.images.proofs.telling.tell_begins.Goals as goal

pub loop-number-init : goal.loop-number-init
loop-number-init c = begun_none c.args.told.now.items c.args.live.now.live c.requires

pub loop-number-preserved : goal.loop-number-preserved
loop-number-preserved c =
    begun_one c.args.told.now.items c.loop-number.told.items c.tell.new.told.items
    c.args.live.now.live
    c.loop-number.last c.in-Some.number c.loop-number.invariant c.in-Some.ensures.found
    (c.requires c.in-Some.number c.in-Some.ensures.found.lives) c.in_ok-tell.ensures.told
