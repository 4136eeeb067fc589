use Rattle.script.proofs.ScriptOperations.{one_key, two_keys}
use Rattle.script.proofs.operations.one_or_two.Goals as goal

pub returns-in_err-key-in-None : goal.returns-in_err-key-in-None
returns-in_err-key-in-None c = rw c.from_residual-in_err-key-in-None.ensures
    (λ has.
    let key = one_key c.args.text.now c.in-None.ensures.none has in
    c.in_err-key-in-None.ensures key.0 key.1 key.2)

pub returns-in_err-first-in-Some : goal.returns-in_err-first-in-Some
returns-in_err-first-in-Some c = rw c.from_residual.ensures
    (λ has.
    let key = (two_keys c.args.text.now c.in-Some.front.now c.in-Some.back.now
    c.in-Some.ensures.some c.in-Some.ensures.first has).0 in
    c.in_err-first-in-Some.ensures key.0 key.1 key.2)

pub returns-in_err-second-in-Some : goal.returns-in_err-second-in-Some
returns-in_err-second-in-Some c = rw c.from_residual-in_err-second-in-Some.ensures
    (λ has.
    let key = (two_keys c.args.text.now c.in-Some.front.now c.in-Some.back.now
    c.in-Some.ensures.some c.in-Some.ensures.first has).1 in
    c.in_err-second-in-Some.ensures key.0 key.1 key.2)
