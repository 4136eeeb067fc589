use Rattle.std.proofs.Common.{sym, ap, subst, ◌∙◌}
use Rattle.disk_model.specs.Disk.{LeavesOnly, Rises}
use Rattle.gate_block.specs.Area.{size_of}
use Rattle.checkpoint.specs.Keepers.{KeeperState}
use Rattle.checkpoint.specs.Imaging.{IsTooLong}
use Rattle.replay.specs.Journals.{StandsFor}
use Rattle.replay.specs.Reading.{IsSound}
use Rattle.recovery.specs.Upgrades.{IsUpgraded}
use Rattle.recovery.proofs.UpgradeLemmas.{taken_upgraded, taken_kept, taking_refusal, too_long}
use Rattle.recovery.proofs.UpgradeLemmas.{made_fresh, still_there}
use Rattle.recovery.proofs.upgrading.write_second.Goals as goal

pub returns-in-Ok-take_image-clause-upgraded : goal.returns-in-Ok-take_image-clause-upgraded
returns-in-Ok-take_image-clause-upgraded g c = λ old o.
    let x = c.args.recovered in
    let k = c.new-keeper.result in
    subst (λ d. IsUpgraded old (g.D.Disk.seen d)) (sym c.into_disk.ensures)
    (taken_upgraded g.D.Disk c.args.disk old x.machine x.next x.area o c.upheld.ensures
    c.in-Ok.image c.in-Ok.ensures.image k c.take_image.new.keeper
    (ap (λ (k : KeeperState g.row.D.Denot). k.disk) c.new-keeper.ensures)
    (ap (λ (k : KeeperState g.row.D.Denot). k.area) c.new-keeper.ensures) c.requires.other
    c.requires.one c.in-Ok-take_image.ensures.flipped c.in-Ok-take_image.ensures.ready)

pub returns-in-Ok-take_image-clause-kept : goal.returns-in-Ok-take_image-clause-kept
returns-in-Ok-take_image-clause-kept g c = λ old o rest.
    let x = c.args.recovered in
    let k = c.new-keeper.result in
    subst (λ d. LeavesOnly g.D.Disk.moment g.D.Disk.left_since c.args.disk d
    (λ b. IsSound b × StandsFor b x.machine.now)) (sym c.into_disk.ensures)
    (taken_kept g.D.Disk c.args.disk old x.machine x.next x.area o c.upheld.ensures
    c.in-Ok.image c.in-Ok.ensures.image k c.take_image.new.keeper
    (made_fresh c.args.disk x.area k c.new-keeper.ensures)
    (ap (λ (k : KeeperState g.row.D.Denot). k.disk) c.new-keeper.ensures)
    (ap (λ (k : KeeperState g.row.D.Denot). k.area) c.new-keeper.ensures) rest
    c.take_image.ensures.takes)

pub returns-in-Err-take_image-clause-kept_in_refusal :
    goal.returns-in-Err-take_image-clause-kept_in_refusal
returns-in-Err-take_image-clause-kept_in_refusal g c = λ old o rest.
    let x = c.args.recovered in
    let k = c.new-keeper.result in
    subst (λ d. LeavesOnly g.D.Disk.moment g.D.Disk.left_since c.args.disk d
    (λ b. IsSound b × StandsFor b x.machine.now)) (sym c.into_disk-in-Err-take_image.ensures)
    (taken_kept g.D.Disk c.args.disk old x.machine x.next x.area o c.upheld.ensures
    c.in-Ok.image c.in-Ok.ensures.image k c.take_image.new.keeper
    (made_fresh c.args.disk x.area k c.new-keeper.ensures)
    (ap (λ (k : KeeperState g.row.D.Denot). k.disk) c.new-keeper.ensures)
    (ap (λ (k : KeeperState g.row.D.Denot). k.area) c.new-keeper.ensures) rest
    c.take_image.ensures.takes)

pub returns-in-Err-take_image-clause-refused : goal.returns-in-Err-take_image-clause-refused
returns-in-Err-take_image-clause-refused g c =
    let x = c.args.recovered in
    let k = c.new-keeper.result in
    let area = ap (λ (k : KeeperState g.row.D.Denot). k.area) c.new-keeper.ensures in
    let disk = ap (λ (k : KeeperState g.row.D.Denot). k.disk) c.new-keeper.ensures in
    taking_refusal _ _ _ _ c.in-Err-take_image.refusal
    (λ risen. subst (λ d. Rises (g.D.Disk.fault_count c.args.disk) (g.D.Disk.fault_count d))
    (sym c.into_disk-in-Err-take_image.ensures)
    (subst (λ d. Rises (g.D.Disk.fault_count d)
    (g.D.Disk.fault_count c.take_image.new.keeper.disk)) disk risen))
    (λ long old o. too_long old (g.D.Disk.seen c.args.disk) x.machine x.next x.area o
    c.upheld.ensures c.in-Ok.image.blocks.items c.in-Ok.ensures.image
    (subst (λ a. IsTooLong (size_of a) c.in-Ok.image.blocks.items) area long))
    c.in-Err-take_image.ensures.refused

pub returns-in-Err-clause-kept_in_refusal : goal.returns-in-Err-clause-kept_in_refusal
returns-in-Err-clause-kept_in_refusal g c = λ old o rest.
    still_there g.D.Disk c.args.disk old c.args.recovered.machine c.args.recovered.next
    c.args.recovered.area o (g.met.D.Disk.only_now c.args.disk) rest

pub returns-in-Err-take_image-clause-unwritten : goal.returns-in-Err-take_image-clause-unwritten
returns-in-Err-take_image-clause-unwritten g c = λ no_fault.
    c.into_disk-in-Err-take_image.ensures ∙ c.in-Err-take_image.ensures.unwritten no_fault ∙
    ap (λ (k : KeeperState g.row.D.Denot). k.disk) c.new-keeper.ensures
