use Rattle.std.proofs.Common.{rules}
use Rattle.disk_model.proofs.mem_disk.unmark.Goals as goal

pub returns : goal.returns
returns c = search rules
