use Rattle.script.proofs.ScriptPhrases.{no_make_without_space, kind_is_front, name_is_back}
use Rattle.script.proofs.phrases.made.Goals as goal

pub returns-in_default : goal.returns-in_default
returns-in_default c = λ r. no_make_without_space c.args.text.now r c.in_default.ensures.none

pub returns-in_default-named : goal.returns-in_default-named
returns-in_default-named c = λ r.
    let none = rw c.in_default-named.is at c.named.ensures in
    kind_is_front c.args.text.now c.in-Some.front.now c.in-Some.back.now r c.in-Some.ensures.some
    c.in-Some.ensures.first none

pub returns-in-None : goal.returns-in-None
returns-in-None c = λ r.
    let none = rw c.in-None.is at c.in_ok-name.ensures in
    name_is_back c.args.text.now c.in-Some.front.now c.in-Some.back.now r c.in-Some.ensures.some
    c.in-Some.ensures.first none
