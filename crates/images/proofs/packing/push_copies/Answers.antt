use Rattle.std.proofs.Common.{arith}
use Rattle.records.specs.Packings.{joined, Writes}
use Rattle.records.specs.Images.{TellsOf}
use Rattle.images.specs.Gathers.{gathered}
use Rattle.images.specs.Views.{copy_of, copies_of}
use Rattle.images.proofs.ImageRecords.{told_none, told_one, told_all, at_copy, short_copy}
use Rattle.images.proofs.ImageRecords.{count_copies}
use Rattle.images.proofs.packing.push_copies.Goals as goal

pub loop-stamped-init : goal.loop-stamped-init
loop-stamped-init g c = told_none (joined c.args.packer.now)
    (gathered (copies_of g.P.Part.collection c.args.copies.now))

pub push_copy-requires : goal.push_copy-requires
push_copy-requires g c = short_copy (copy_of g.P.Part.collection) c.stamped-item.result
    c.args.copies.now c.loop-stamped.stamped-index c.loop-stamped-test.true c.stamped-item.is
    c.requires

pub loop-stamped-preserved : goal.loop-stamped-preserved
loop-stamped-preserved g c =
    let now = joined c.loop-stamped.packer in
    let after = joined c.push_copy.new.packer in
    told_one (joined c.args.packer.now) now after
    (gathered (copies_of g.P.Part.collection c.args.copies.now)) c.loop-stamped.stamped-index
    c.loop-stamped.invariant
    (at_copy (copy_of g.P.Part.collection) c.stamped-item.result
    (λ x. Writes now after (TellsOf x)) c.args.copies.now c.loop-stamped.stamped-index
    c.loop-stamped-test.true c.stamped-item.is c.in_ok-push_copy.ensures.told)

pub returns-clause-told : goal.returns-clause-told
returns-clause-told g c =
    told_all (joined c.args.packer.now) (joined c.loop-stamped.packer)
    (gathered (copies_of g.P.Part.collection c.args.copies.now)) c.loop-stamped.stamped-index
    c.loop-stamped.invariant
    (omega (
      arith,
      count_copies (copy_of g.P.Part.collection) c.args.copies.now,
      c.loop-stamped-test.false,
    ))
