use Rattle.script.proofs.ScriptOperations.{after_gives, alone_gives}
use Rattle.script.proofs.operations.operation.Goals as goal

pub returns-in-Some : goal.returns-in-Some
returns-in-Some c = after_gives c.after_word.result c.args.text.now c.in-Some.word.now
    c.in-Some.rest.now c.in-Some.ensures.some c.in-Some.ensures.first c.after_word.ensures

pub returns-in-None : goal.returns-in-None
returns-in-None c = alone_gives c.one_word.result c.args.text.now c.in-None.ensures.none
    c.one_word.ensures
