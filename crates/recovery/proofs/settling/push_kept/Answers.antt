use Rattle.std.proofs.Common.{arith}
use Rattle.records.specs.Packings.{joined, Writes}
use Rattle.records.specs.Images.{TellsOf}
use Rattle.images.proofs.ImageRecords.{told_none, told_one, told_all}
use Rattle.recovery.proofs.EditLemmas.{kept_at, kept_there, kept_count}
use Rattle.recovery.proofs.settling.push_kept.Goals as goal

pub loop-one-init : goal.loop-one-init
loop-one-init c = λ xs are. told_none (joined c.args.packer.now) xs

pub push_one-requires-clause-kept : goal.push_one-requires-clause-kept
push_one-requires-clause-kept c =
    let some = c.requires.kept in
    kept_there c.args.collections.now c.args.kept.now some.0 c.loop-one.one-index c.one-item.result
    some.1 some.2 c.loop-one-test.true c.one-item.is

pub loop-one-preserved : goal.loop-one-preserved
loop-one-preserved c = λ xs are.
    let now = joined c.loop-one.packer in
    let after = joined c.push_one.new.packer in
    told_one (joined c.args.packer.now) now after xs c.loop-one.one-index
    (c.loop-one.invariant xs are)
    (kept_at (λ x. Writes now after (TellsOf x)) c.args.collections.now c.args.kept.now xs
    c.loop-one.one-index c.one-item.result are c.loop-one-test.true c.one-item.is
    c.in_ok-push_one.ensures.told)

pub returns-clause-told : goal.returns-clause-told
returns-clause-told c = λ xs are.
    told_all (joined c.args.packer.now) (joined c.loop-one.packer) xs c.loop-one.one-index
    (c.loop-one.invariant xs are)
    (omega (
      arith,
      kept_count c.args.collections.now c.args.kept.now xs are,
      c.loop-one-test.false,
    ))
