use Rattle.std.proofs.Common.{arith}
use Rattle.script.proofs.ScriptSeconds.{placed_gives}
use Rattle.script.proofs.seconds.with_places.Goals as goal

pub returns-in_default : goal.returns-in_default
returns-in_default c = λ ms small are.
    let none = rw c.in_default.is at c.places.ensures in none are.1 are.3

pub returns-in-Some-natural : goal.returns-in-Some-natural
returns-in-Some-natural c =
    let placed = rw c.in-Some.is at c.places.ensures in
    placed_gives c.bounded.result c.args.front.now c.args.back.now c.in-Some-natural.whole
    c.in-Some.more (rw c.in-Some-natural.is at c.natural.ensures) placed.1 c.bounded.ensures
    (omega (arith, c.if-prove.false))
