use Rattle.std.proofs.Common.{sym, ◌∙◌, arith}
use Rattle.std.proofs.lemmas.Bool.{true≢false}
use Rattle.script.proofs.ScriptWords.{same_client}
use Rattle.script.proofs.words.client.Goals as goal

pub returns-else-is_client : goal.returns-else-is_client
returns-else-is_client c = λ n client is.
    let found = rw c.in-Some.is at c.natural.ensures in
    true≢false (sym (c.is_client.ensures.1
    (same_client n c.in-Some.number c.args.text.now client (omega (arith, c.if-prove.false)) is
    found)) ∙ c.if-is_client.false)
