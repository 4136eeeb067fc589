use Rattle.std.proofs.Common.{rules}
use Rattle.calls.proofs.kind.Kind.name.Goals as goal

pub returns-in-Set : goal.returns-in-Set
returns-in-Set c = search rules
