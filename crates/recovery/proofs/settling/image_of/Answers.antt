use Rattle.records.proofs.Packed.{all_whole}
use Rattle.recovery.proofs.settling.image_of.Goals as goal

pub invariant_of-result : goal.invariant_of-result
invariant_of-result c =
    let packed = c.in_ok-image_blocks.ensures.image in
    record { whole = all_whole c.in_ok-image_blocks.field-0.items packed.groups packed.whole }
