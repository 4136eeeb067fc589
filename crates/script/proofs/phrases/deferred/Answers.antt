use Rattle.script.proofs.ScriptPhrases.{bump_gives, fill_gives}
use Rattle.script.proofs.phrases.deferred.Goals as goal

pub returns-in-Some : goal.returns-in-Some
returns-in-Some c = bump_gives c.bump.result c.args.text.now c.in-Some.rest.now
    c.in-Some.ensures.some c.bump.ensures

pub returns-in-Some-behind : goal.returns-in-Some-behind
returns-in-Some-behind c = fill_gives c.fill.result c.args.text.now c.in-Some-behind.rest.now
    c.in-Some-behind.ensures.some c.fill.ensures
