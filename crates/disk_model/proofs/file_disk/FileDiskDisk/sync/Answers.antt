use Rattle.disk_model.specs.Events.{padded}
use Rattle.disk_model.proofs.Calls.{at_rest, sizes_after_sync, sync_adds_nothing}
use Rattle.disk_model.proofs.file_disk.FileDiskDisk.sync.Goals as goal

pub returns-clause-durable : goal.returns-clause-durable
returns-clause-durable g c =
    let d = c.args.self.now in
    at_rest (padded g.S.Content.content d.size) d.size d.log.events c.note.new.self.events d.sized
    d.marked _ c.note.ensures c.if-not-ok.false

pub returns-clause-stop : goal.returns-clause-stop
returns-clause-stop g c =
    let d = c.args.self.now in
    sync_adds_nothing (padded g.S.Content.content d.size) d.size d.log.events c.note.new.self.events
    d.sized d.marked _ c.note.ensures c.if-not-ok.false

pub invariant_of-self : goal.invariant_of-self
invariant_of-self g c =
    let d = c.args.self.now in
    let sizes = sizes_after_sync (padded g.S.Content.content d.size) d.size d.log.events
    c.note.new.self.events d.sized d.marked _ c.note.ensures in
    record { sized = sizes.0; marked = sizes.1 }
