use Rattle.std.proofs.Common.{◌≡◌, true, sym, ◌∙◌, rules}
use Rattle.std.proofs.lemmas.Bool.{true≢false}
use Rattle.script.proofs.ScriptWords.{number_is_text, number_parses, number_shown}
use Rattle.script.proofs.words.number.Goals as goal

pub returns-in_default : goal.returns-in_default
returns-in_default c = λ n fits e. c.in_default.ensures.cases.0
    (number_is_text n c.args.text.now fits e)

pub returns-in_default-parse : goal.returns-in_default-parse
returns-in_default-parse c = λ n fits e. c.in_default-parse.not-Ok n
    (number_parses n c.in-Ok.word.now c.parse.result c.parse.ensures.value.0 fits
    (c.in-Ok.ensures.cases.0 ∙ e))

pub returns-else-same : goal.returns-else-same
returns-else-same c = λ n fits e.
    let parsed = number_parses n c.in-Ok.word.now c.parse.result c.parse.ensures.value.0 fits
    (c.in-Ok.ensures.cases.0 ∙ e) in
    let shown = number_shown n c.in-Ok-parse.n c.format-again.result.now c.args.text.now
    c.parse.result fits c.in-Ok-parse.is parsed c.format-again.ensures.text e in
    let is : c.same.result ≡ true = c.same.ensures.1 (c.as_bytes.ensures.value ∙ shown) in
    true≢false (sym is ∙ c.if-same.false)

pub returns-then-same : goal.returns-then-same
returns-then-same c = search rules
