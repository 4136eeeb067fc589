use Rattle.std.proofs.Common.{rules}
use Rattle.disk_model.proofs.mem_disk.MemDisk.fail_at.Goals as goal

pub returns-clause-fail_in : goal.returns-clause-fail_in
returns-clause-fail_in c = search rules
