use Rattle.script.proofs.ScriptPhrases.{client_gives, denied}
use Rattle.script.proofs.phrases.action.Goals as goal

pub returns-in-Some : goal.returns-in-Some
returns-in-Some c = client_gives c.of_client.result c.args.line.now c.in-Some.rest.now
    c.in-Some.ensures.some (denied c.same-2.result c.same-2.ensures c.if-same-2.false)
    c.of_client.ensures
