use Rattle.script.proofs.ScriptOperations.{put_space, put_pair}
use Rattle.script.proofs.operations.put.Goals as goal

pub returns-in_default : goal.returns-in_default
returns-in_default c = λ has. put_space c.args.text.now c.in_default.ensures.none has

pub returns-in_default-natural : goal.returns-in_default-natural
returns-in_default-natural c = λ has.
    let none = rw c.in_default-natural.is at c.natural.ensures in
    let key = (put_pair c.args.text.now c.in-Some.front.now c.in-Some.back.now
    c.in-Some.ensures.some c.in-Some.ensures.first has).0 in
    none key.0 key.1 key.2

pub returns-in-None : goal.returns-in-None
returns-in-None c = λ has.
    let none = rw c.in-None.is at c.in_ok-bytes.ensures in
    let bytes = (put_pair c.args.text.now c.in-Some.front.now c.in-Some.back.now
    c.in-Some.ensures.some c.in-Some.ensures.first has).1 in
    none bytes.0 bytes.1 bytes.2
