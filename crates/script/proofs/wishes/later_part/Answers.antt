use Rattle.script.proofs.WishLemmas.{later_gives}
use Rattle.script.proofs.wishes.later_part.Goals as goal

pub returns-in-Some : goal.returns-in-Some
returns-in-Some c = later_gives c.deferral.result c.args.text.now c.in-Some.rest.now
    c.in-Some.ensures.some c.deferral.ensures
