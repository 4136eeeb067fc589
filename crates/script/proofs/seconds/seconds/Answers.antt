use Rattle.script.proofs.ScriptSeconds.{pointed_gives, whole_only}
use Rattle.script.proofs.seconds.seconds.Goals as goal

pub returns-in-Some : goal.returns-in-Some
returns-in-Some c = pointed_gives c.with_places.result c.args.text.now c.in-Some.front.now
    c.in-Some.back.now c.in-Some.ensures.some c.in-Some.ensures.first c.with_places.ensures

pub returns-in-None : goal.returns-in-None
returns-in-None c = whole_only c.whole_seconds.result c.args.text.now c.in-None.ensures.none
    c.whole_seconds.ensures
