use Rattle.std.proofs.Common.{refl}
use Rattle.records.specs.Packings.{joined}
use Rattle.images.proofs.ImageRecords.{written_this, written_one, written_all}
use Rattle.images.proofs.packing.push_records.Goals as goal

pub loop-entry-init : goal.loop-entry-init
loop-entry-init c = record { told = refl; left = c.requires }

pub write-requires : goal.write-requires
write-requires c = written_this (joined c.args.packer.now) c.args.records.now
    (joined c.loop-entry.packer) c.loop-entry.entry-index c.loop-entry.invariant
    c.entry-item.result c.loop-entry-test.true c.entry-item.is

pub loop-entry-preserved : goal.loop-entry-preserved
loop-entry-preserved c = written_one (joined c.args.packer.now) c.args.records.now
    (joined c.loop-entry.packer) c.loop-entry.entry-index c.loop-entry.invariant
    c.entry-item.result c.loop-entry-test.true c.entry-item.is (joined c.write.new.self)
    c.in_ok-write.ensures.written

pub returns-clause-told : goal.returns-clause-told
returns-clause-told c = written_all (joined c.args.packer.now) c.args.records.now
    (joined c.loop-entry.packer) c.loop-entry.entry-index c.loop-entry.invariant
    c.loop-entry-test.false
