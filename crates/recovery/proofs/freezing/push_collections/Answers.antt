use Rattle.records.specs.Packings.{joined}
use Rattle.images.proofs.ImageRecords.{told_none, told_one}
use Rattle.recovery.proofs.freezing.push_collections.Goals as goal

pub loop-at-init : goal.loop-at-init
loop-at-init g c = told_none (joined c.args.packer.now) (g.B.Parts.collections c.args.parts.now)

pub loop-at-preserved : goal.loop-at-preserved
loop-at-preserved g c =
    told_one (joined c.args.packer.now) (joined c.loop-at.packer)
    (joined c.push_collection.new.packer)
    (g.B.Parts.collections c.args.parts.now) c.loop-at.at c.loop-at.invariant
    (c.in_ok-push_collection.ensures.there c.if-not-branch.false)
