use Rattle.std.proofs.Common.{inr}
use Rattle.replay.proofs.Walks.{rises_before}
use Rattle.gate_block.specs.Area.{size_of}
use Rattle.recovery.proofs.RefusalLemmas.{unopened_leaves, opened_leaves}
use Rattle.recovery.proofs.UpgradeLemmas.{ok_two, err_two, both_err, kept_then, upgrade_refusal}
use Rattle.recovery.specs.Openings.{book_of}
use Rattle.recovery.proofs.upgrading.upgrade.Goals as goal

pub returns-in-Ok-clause-upgraded : goal.returns-in-Ok-clause-upgraded
returns-in-Ok-clause-upgraded g c =
    ok_two c.upgrade_recovered.result _ _ _ c.upgrade_recovered.ensures.upgraded
    c.upgrade_recovered.ensures.honest
    (λ new upgraded honest true_read. upgraded (g.D.Disk.seen c.args.disk)
    (c.in-Ok.ensures.opened (honest true_read)))

pub returns-in-Ok-clause-durable : goal.returns-in-Ok-clause-durable
returns-in-Ok-clause-durable g c =
    ok_two c.upgrade_recovered.result _ _ _ c.upgrade_recovered.ensures.durable
    c.upgrade_recovered.ensures.honest
    (λ new durable honest true_read rest. durable
    (c.in-Ok.ensures.durable (honest true_read) rest))

pub returns-in-Ok-clause-kept : goal.returns-in-Ok-clause-kept
returns-in-Ok-clause-kept g c =
    ok_two c.upgrade_recovered.result _ _ _ c.upgrade_recovered.ensures.kept
    c.upgrade_recovered.ensures.honest
    (λ new kept honest true_read. kept_then g.D.Disk.seen g.D.Disk.may_leave g.D.Disk.moment
    g.D.Disk.left_since c.args.disk c.recover.new.disk new c.in-Ok.recovered.machine.now
    (c.recover.ensures.kept (honest true_read))
    (λ content stands. c.in-Ok.ensures.content content stands (honest true_read))
    (λ rest. kept (g.D.Disk.seen c.args.disk) (c.in-Ok.ensures.opened (honest true_read))
    (c.in-Ok.ensures.durable (honest true_read) rest)))

pub returns-in-Ok-clause-kept_in_refusal : goal.returns-in-Ok-clause-kept_in_refusal
returns-in-Ok-clause-kept_in_refusal g c =
    err_two c.upgrade_recovered.result _ _ _ c.upgrade_recovered.ensures.kept_in_refusal
    c.upgrade_recovered.ensures.honest_in_refusal
    (λ x kept honest true_read. kept_then g.D.Disk.seen g.D.Disk.may_leave g.D.Disk.moment
    g.D.Disk.left_since c.args.disk c.recover.new.disk x.1 c.in-Ok.recovered.machine.now
    (c.recover.ensures.kept (honest true_read))
    (λ content stands. c.in-Ok.ensures.content content stands (honest true_read))
    (λ rest. kept (g.D.Disk.seen c.args.disk) (c.in-Ok.ensures.opened (honest true_read))
    (c.in-Ok.ensures.durable (honest true_read) rest)))

pub returns-in-Ok-clause-refused : goal.returns-in-Ok-clause-refused
returns-in-Ok-clause-refused g c =
    err_two c.upgrade_recovered.result _ _ _ c.upgrade_recovered.ensures.refused
    (both_err c.upgrade_recovered.result _ _ c.upgrade_recovered.ensures.honest_in_refusal
    c.upgrade_recovered.ensures.faults_in_refusal)
    (λ x refused told. upgrade_refusal _ _ _ _ _ _ x.0
    (rises_before _ _ _ c.recover.ensures.faults told.1)
    (λ long true_read. inr (long (g.D.Disk.seen c.args.disk)
    (c.in-Ok.ensures.opened (told.0 true_read)))) refused)

pub returns-in-Ok-clause-starved : goal.returns-in-Ok-clause-starved
returns-in-Ok-clause-starved g c =
    err_two c.upgrade_recovered.result _ _ _ c.upgrade_recovered.ensures.honest_in_refusal
    c.upgrade_recovered.ensures.honest_in_refusal
    (λ x honest same starved true_read.
    let o = c.in-Ok.ensures.opened (honest true_read) in
    (o.version, size_of c.in-Ok.recovered.area, o.header))

pub returns-in-Ok-clause-left : goal.returns-in-Ok-clause-left
returns-in-Ok-clause-left g c =
    err_two c.upgrade_recovered.result _ _ _ c.upgrade_recovered.ensures.refused
    c.upgrade_recovered.ensures.unwritten
    (λ x refused same. opened_leaves g.D.Disk c.args.disk x.1 c.recover.new.disk _ _ x.0 refused
    same
    (λ true_read. record {
      book = book_of c.in-Ok.recovered.machine c.in-Ok.recovered.next;
      area = c.in-Ok.recovered.area;
      opened = c.in-Ok.ensures.opened true_read;
      at_rest = c.in-Ok.ensures.durable true_read;
    }))

pub returns-in-Err-clause-left : goal.returns-in-Err-clause-left
returns-in-Err-clause-left g c =
    unopened_leaves g.D.Disk c.args.disk c.recover.new.disk c.in-Err.refusal
    c.in-Err.ensures.unchanged
