use Rattle.std.proofs.Common.{[]}
use Rattle.records.proofs.Packed.{all_whole}
use Rattle.records.specs.Images.{IsImage}
use Rattle.images.proofs.ImageRecords.{packed_of}
use Rattle.recovery.proofs.EditLemmas.{settled_some}
use Rattle.recovery.proofs.settling.kept_image.Goals as goal

pub invariant_of-result : goal.invariant_of-result
invariant_of-result c = record {
  whole = all_whole c.in_ok-finish.field-0.items c.push_settled.new.packer
      c.in_ok-finish.ensures.whole.0;
}

pub returns-clause-image : goal.returns-clause-image
returns-clause-image c = λ xs are.
    let s = c.args.machine.now in
    let whole = c.in_ok-finish.ensures.whole in
    packed_of (IsImage s.format c.args.next s.wear xs [] [])
    (settled_some s.format c.args.next s.wear xs) c.push_settled.new.packer c.new-packer.result
    (c.in_ok-push_settled.ensures.told xs are) c.in_ok-finish.field-0.items c.new-packer.ensures
    whole.0 whole.1 whole.2
