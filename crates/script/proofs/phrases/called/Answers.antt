use Rattle.script.proofs.ScriptPhrases.{no_call_without_space, name_is_front, call_is_back}
use Rattle.script.proofs.phrases.called.Goals as goal

pub returns-in_default : goal.returns-in_default
returns-in_default c = λ r. no_call_without_space c.args.text.now r c.in_default.ensures.none

pub returns-in_default-2 : goal.returns-in_default-2
returns-in_default-2 c = λ r is.
    let none = rw c.in_default-2.is at c.in_ok-name.ensures in
    none (name_is_front c.args.text.now c.in-Some.front.now c.in-Some.back.now r
    c.in-Some.ensures.some c.in-Some.ensures.first is)

pub returns-in-None : goal.returns-in-None
returns-in-None c = λ r.
    let none = rw c.in-None.is at c.in_ok-asked.ensures in
    call_is_back c.args.text.now c.in-Some.front.now c.in-Some.back.now r c.in-Some.ensures.some
    c.in-Some.ensures.first none
