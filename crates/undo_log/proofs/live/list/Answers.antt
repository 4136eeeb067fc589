use Rattle.undo_log.proofs.Index.{inserted, inserted_rises}
use Rattle.undo_log.proofs.live.list.Goals as goal

pub returns-clause-rising : goal.returns-clause-rising
returns-clause-rising c =
    let gap = rw c.deref.ensures.value at c.in-Err.ensures.absent in
    rw c.in-Ok.ensures.items
    (inserted_rises c.args.index.now.items c.requires.rising c.in-Err.place c.args.handle gap)

pub returns-clause-listed : goal.returns-clause-listed
returns-clause-listed c =
    let gap = rw c.deref.ensures.value at c.in-Err.ensures.absent in
    rw c.in-Ok.ensures.items
    (inserted c.args.index.now.items c.requires.rising c.in-Err.place c.args.handle gap)
