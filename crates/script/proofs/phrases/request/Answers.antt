use Rattle.std.proofs.Common.{rules}
use Rattle.script.proofs.ScriptPhrases.{called_gives, deferred_gives, made_gives}
use Rattle.script.proofs.phrases.request.Goals as goal

pub returns-in-Some : goal.returns-in-Some
returns-in-Some c = called_gives c.called.result c.args.text.now c.in-Some.rest.now
    c.in-Some.ensures.some c.called.ensures

pub returns-in-Some-behind : goal.returns-in-Some-behind
returns-in-Some-behind c = deferred_gives c.deferral.result c.args.text.now
    c.in-Some-behind.rest.now
    c.in-Some-behind.ensures.some c.deferral.ensures

pub returns-in-Some-behind-2 : goal.returns-in-Some-behind-2
returns-in-Some-behind-2 c = made_gives c.made.result c.args.text.now c.in-Some-behind-2.rest.now
    c.in-Some-behind-2.ensures.some c.made.ensures

pub returns-then-same-2 : goal.returns-then-same-2
returns-then-same-2 c = search rules
