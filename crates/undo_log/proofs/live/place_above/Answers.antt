use Rattle.undo_log.proofs.Index.{found_below, found_above, gap_below}
use Rattle.undo_log.proofs.live.place_above.Goals as goal

pub returns-in-Ok-clause-below : goal.returns-in-Ok-clause-below
returns-in-Ok-clause-below c = found_below c.args.index.now c.requires c.args.after c.in-Ok.place
    c.in-Ok.ensures.found.0 c.in-Ok.ensures.found.1

pub returns-in-Ok-clause-above : goal.returns-in-Ok-clause-above
returns-in-Ok-clause-above c = found_above c.args.index.now c.requires c.args.after c.in-Ok.place
    c.in-Ok.ensures.found.0 c.in-Ok.ensures.found.1

pub returns-in-Err-clause-below : goal.returns-in-Err-clause-below
returns-in-Err-clause-below c = gap_below c.args.index.now c.args.after c.in-Err.place
    c.in-Err.ensures.absent
