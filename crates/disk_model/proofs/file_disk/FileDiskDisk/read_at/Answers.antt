use Rattle.std.proofs.Common.{rules}
use Rattle.disk_model.proofs.file_disk.FileDiskDisk.read_at.Goals as goal

pub returns-clause-bytes : goal.returns-clause-bytes
returns-clause-bytes g c = search rules
