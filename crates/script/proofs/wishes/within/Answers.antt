use Rattle.std.proofs.Common.{codes}
use Rattle.script.proofs.ScriptSeconds.{no_word, no_seconds, no_calls, no_behind, no_such_word}
use Rattle.script.proofs.ScriptSeconds.{no_keep_there}
use Rattle.script.proofs.wishes.within.Goals as goal

pub returns-in_default : goal.returns-in_default
returns-in_default c = λ w. no_word w c.args.text.now c.in_default.ensures.none

pub returns-in_default-seconds : goal.returns-in_default-seconds
returns-in_default-seconds c = λ w.
    no_seconds w c.args.text.now c.in-Some.front.now c.in-Some.back.now c.in-Some.ensures.some
    c.in-Some.ensures.first (rw c.in_default-seconds.is at c.seconds.ensures)

pub returns-in-None : goal.returns-in-None
returns-in-None c = λ w.
    no_calls w c.args.text.now c.in-Some.front.now c.in-Some.back.now c.in-Some.ensures.some
    c.in-Some.ensures.first
    (no_behind (codes "do ") c.in-Some-behind.rest.now c.in-Some.back.now c.in-Some-behind.ensures.some
    (rw c.in-None.is at c.in_ok-calls.ensures))
    (no_keep_there c.in-Some-behind.rest.now c.in-Some.back.now c.in-Some-behind.ensures.some)

pub returns-in_default-behind-2 : goal.returns-in_default-behind-2
returns-in_default-behind-2 c = λ w.
    no_calls w c.args.text.now c.in-Some.front.now c.in-Some.back.now c.in-Some.ensures.some
    c.in-Some.ensures.first
    (no_such_word (codes "do ") c.in-Some.back.now c.in_default-behind.ensures.none)
    (no_such_word (codes "keep ") c.in-Some.back.now c.in_default-behind-2.ensures.none)

pub returns-in-None-2 : goal.returns-in-None-2
returns-in-None-2 c = λ w.
    no_calls w c.args.text.now c.in-Some.front.now c.in-Some.back.now c.in-Some.ensures.some
    c.in-Some.ensures.first
    (no_such_word (codes "do ") c.in-Some.back.now c.in_default-behind.ensures.none)
    (no_behind (codes "keep ") c.in-Some-behind-2.rest.now c.in-Some.back.now c.in-Some-behind-2.ensures.some
    (rw c.in-None-2.is at c.in_ok-calls-2.ensures))
