use Rattle.std.proofs.Common.{rules}
use Rattle.disk_model.specs.Events.{padded}
use Rattle.disk_model.proofs.Calls.{after_write, torn_by_write, sizes_after_write}
use Rattle.disk_model.proofs.file_disk.FileDiskDisk.write_at.Goals as goal

pub returns-then-not-ok-clause-stop : goal.returns-then-not-ok-clause-stop
returns-then-not-ok-clause-stop g c =
    let d = c.args.self.now in
    after_write (padded g.S.Content.content d.size) d.size d.log.events c.note.new.self.events
    d.sized d.marked c.args.at c.args.bytes.now _ c.note.ensures c.requires

pub returns-clause-stop : goal.returns-clause-stop
returns-clause-stop g c =
    let d = c.args.self.now in
    after_write (padded g.S.Content.content d.size) d.size d.log.events c.note.new.self.events
    d.sized d.marked c.args.at c.args.bytes.now _ c.note.ensures c.requires

pub returns-clause-written : goal.returns-clause-written
returns-clause-written g c = search rules

pub invariant_of-self : goal.invariant_of-self
invariant_of-self g c =
    let d = c.args.self.now in
    let sizes = sizes_after_write (padded g.S.Content.content d.size) d.size d.log.events
    c.note.new.self.events d.sized d.marked c.args.at c.args.bytes.now _ c.note.ensures
    c.requires in
    record { sized = sizes.0; marked = sizes.1 }

pub returns-clause-seen : goal.returns-clause-seen
returns-clause-seen g c =
    let d = c.args.self.now in
    torn_by_write (padded g.S.Content.content d.size) d.size d.log.events c.note.new.self.events
    d.sized d.marked c.args.at c.args.bytes.now _ c.note.ensures c.requires
