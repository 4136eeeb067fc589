use Rattle.std.proofs.Common.{◌≡◌, true, sym, ◌∙◌}
use Rattle.std.proofs.lemmas.Bool.{true≢false}
use Rattle.script.proofs.ScriptWords.{natural_is_text, natural_parses, natural_shown}
use Rattle.script.proofs.words.natural.Goals as goal

pub returns-in_default : goal.returns-in_default
returns-in_default c = λ n small e. c.in_default.ensures.cases.0
    (natural_is_text n c.args.text.now small e)

pub returns-in_default-parse : goal.returns-in_default-parse
returns-in_default-parse c = λ n small e. c.in_default-parse.not-Ok n
    (natural_parses n c.in-Ok.word.now c.parse.result c.parse.ensures.value.0 small
    (c.in-Ok.ensures.cases.0 ∙ e))

pub returns-else-same : goal.returns-else-same
returns-else-same c = λ n small e.
    let parsed = natural_parses n c.in-Ok.word.now c.parse.result c.parse.ensures.value.0 small
    (c.in-Ok.ensures.cases.0 ∙ e) in
    let shown = natural_shown n c.in-Ok-parse.whole c.format-again.result.now c.args.text.now
    c.parse.result c.in-Ok-parse.is parsed c.format-again.ensures.text e in
    let is : c.same.result ≡ true = c.same.ensures.1 (c.as_bytes.ensures.value ∙ shown) in
    true≢false (sym is ∙ c.if-same.false)
