use Rattle.script.proofs.ScriptPhrases.{no_later_without_space, later_name_is_front, later_is_back}
use Rattle.script.proofs.phrases.deferral.Goals as goal

pub returns-in_default : goal.returns-in_default
returns-in_default c = λ r. no_later_without_space c.args.text.now r c.in_default.ensures.none

pub returns-in_default-deferred : goal.returns-in_default-deferred
returns-in_default-deferred c = λ r.
    let none = rw c.in_default-deferred.is at c.deferred.ensures in
    later_is_back c.args.text.now c.in-Some.front.now c.in-Some.back.now r c.in-Some.ensures.some
    c.in-Some.ensures.first none

pub returns-in-None : goal.returns-in-None
returns-in-None c = λ r is.
    let none = rw c.in-None.is at c.in_ok-name.ensures in
    none (later_name_is_front c.args.text.now c.in-Some.front.now c.in-Some.back.now r
    c.in-Some.ensures.some c.in-Some.ensures.first is)
