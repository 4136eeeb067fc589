use Rattle.recovery.proofs.UpgradeLemmas.{was_upgraded, still_there}
use Rattle.std.proofs.Common.{sym, ◌∙◌, true≢false}
use Rattle.recovery.proofs.upgrading.upgrade_recovered.Goals as goal

pub returns-then-is_second-clause-upgraded : goal.returns-then-is_second-clause-upgraded
returns-then-is_second-clause-upgraded g c = λ old o.
    was_upgraded g.D.Disk c.args.disk old c.args.recovered.machine c.args.recovered.next
    c.args.recovered.area o (sym c.format.ensures ∙ c.is_second.ensures.0 c.if-is_second.true)

pub returns-then-is_second-clause-kept : goal.returns-then-is_second-clause-kept
returns-then-is_second-clause-kept g c = λ old o rest.
    still_there g.D.Disk c.args.disk old c.args.recovered.machine c.args.recovered.next
    c.args.recovered.area o (g.met.D.Disk.only_now c.args.disk) rest

pub write_second-requires-clause-other : goal.write_second-requires-clause-other
write_second-requires-clause-other g c = λ second.
    true≢false (sym (c.is_second.ensures.1 (c.format.ensures ∙ second)) ∙ c.if-is_second.false)
