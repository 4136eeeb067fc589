use Rattle.script.proofs.ScriptWords.{not_whole}
use Rattle.script.proofs.words.word.Goals as goal

pub returns-in-Some : goal.returns-in-Some
returns-in-Some c = λ is. not_whole 32 c.args.text.now c.in-Some.field-0.0.now
    c.in-Some.field-0.1.now c.in-Some.ensures.some is.whole
