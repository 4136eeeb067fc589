use Rattle.std.proofs.Common.{rules}
use Rattle.calls.proofs.bytes.Bytes.is_same.Goals as goal

pub returns : goal.returns
returns c = search rules
