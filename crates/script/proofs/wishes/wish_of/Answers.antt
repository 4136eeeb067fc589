use Rattle.script.proofs.ScriptSeconds.{within_gives}
use Rattle.script.proofs.wishes.wish_of.Goals as goal

pub returns-in-Some-behind-2 : goal.returns-in-Some-behind-2
returns-in-Some-behind-2 c = within_gives c.within.result c.args.line.now
    c.in-Some-behind-2.rest.now c.in-Some-behind-2.ensures.some c.within.ensures
