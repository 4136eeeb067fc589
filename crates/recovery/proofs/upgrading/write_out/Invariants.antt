use Rattle.std.proofs.Common.{◌≤◌}
use Rattle.recovery.proofs.UpgradeLemmas.{IsPiecing, left_in}
use Rattle.recovery.proofs.upgrading.write_out.Given as goal

abbrev pub invariant-pieces : goal.invariant-pieces
invariant-pieces g l = IsPiecing g.D.Disk l.initial.keeper l.keeper ×
    ((g.D.Disk.is_honest l.keeper.disk → g.D.Disk.is_honest l.initial.keeper.disk) ×
    (g.D.Disk.fault_count l.initial.keeper.disk ≤ g.D.Disk.fault_count l.keeper.disk))

abbrev pub decreases-pieces : goal.decreases-pieces
decreases-pieces g l = left_in l.keeper.stage
