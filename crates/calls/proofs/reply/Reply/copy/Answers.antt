use Rattle.std.proofs.Common.{rules}
use Rattle.calls.proofs.reply.Reply.copy.Goals as goal

pub returns-in-Yes : goal.returns-in-Yes
returns-in-Yes c = search rules
