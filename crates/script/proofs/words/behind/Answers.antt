use Rattle.std.proofs.Common.{arith}
use Rattle.script.proofs.ScriptWords.{front_is}
use Rattle.script.proofs.words.behind.Goals as goal

pub returns-else-same-clause-none : goal.returns-else-same-clause-none
returns-else-same-clause-none c =
    λ rest e. let f = front_is c.args.text.now c.args.front.now rest e in grind arith
