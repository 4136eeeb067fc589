use Rattle.std.proofs.Common.{arith}
use Rattle.script.proofs.ScriptSeconds.{whole_gives}
use Rattle.script.proofs.seconds.whole_seconds.Goals as goal

pub returns-in-Some : goal.returns-in-Some
returns-in-Some c = whole_gives c.bounded.result c.args.text.now c.in-Some.whole
    (rw c.in-Some.is at c.natural.ensures) c.bounded.ensures (omega (arith, c.if-prove.false))
