use Rattle.script.proofs.ScriptAddresses.{no_client_behind, client_is_first}
use Rattle.script.proofs.addresses.addressed.Goals as goal

pub returns-in_default-split_at_byte : goal.returns-in_default-split_at_byte
returns-in_default-split_at_byte c = λ n rest.
    no_client_behind c.args.line.now c.in-Some.text.now n rest c.in-Some.ensures.some
    c.in_default-split_at_byte.ensures.none

pub returns-in-None : goal.returns-in-None
returns-in-None c = λ n rest.
    let none = rw c.in-None.is at c.client.ensures in
    client_is_first c.args.line.now c.in-Some.text.now c.in-Some-split_at_byte.front.now
    c.in-Some-split_at_byte.back.now n rest c.in-Some.ensures.some
    c.in-Some-split_at_byte.ensures.some c.in-Some-split_at_byte.ensures.first none
