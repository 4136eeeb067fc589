use Rattle.recovery.proofs.FormatLemmas.{both_ok}
use Rattle.recovery.proofs.CopyLemmas.{filled_with}
use Rattle.recovery.proofs.copying.fill_with.Goals as goal

pub returns-clause-filled : goal.returns-clause-filled
returns-clause-filled g c =
    let start = c.start.ensures in
    both_ok c.write_head.result c.write_head.ensures.head c.write_head.ensures.behind
    (filled_with c.args.version c.start.result c.args.area c.args.image
    (g.D.Disk.seen c.lay_all.new.disk)
    (g.D.Disk.seen c.write_head.new.disk) start.base start.size start.offset c.requires.some
    (g.D.Disk.seen c.args.disk.now) c.in_ok-lay_all.ensures.laid)
