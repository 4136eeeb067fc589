use Rattle.script.proofs.ScriptPhrases.{no_client_without_space, client_is_front, request_is_back}
use Rattle.script.proofs.phrases.of_client.Goals as goal

pub returns-in_default : goal.returns-in_default
returns-in_default c = λ a. no_client_without_space c.args.text.now a c.in_default.ensures.none

pub returns-in_default-client : goal.returns-in_default-client
returns-in_default-client c = λ a.
    let none = rw c.in_default-client.is at c.client.ensures in
    client_is_front c.args.text.now c.in-Some.front.now c.in-Some.back.now a c.in-Some.ensures.some
    c.in-Some.ensures.first none

pub returns-in-None : goal.returns-in-None
returns-in-None c = λ a.
    let none = rw c.in-None.is at c.in_ok-asked.ensures in
    request_is_back c.args.text.now c.in-Some.front.now c.in-Some.back.now a c.in-Some.ensures.some
    c.in-Some.ensures.first none
