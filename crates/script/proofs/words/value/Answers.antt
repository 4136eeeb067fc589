use Rattle.std.proofs.Common.{List, ℕ, ◌==◌, length, sym, ◌∙◌, ap}
use Rattle.std.proofs.lemmas.Bool.{true≢false}
use Rattle.hex.specs.Hex.{encode_lower}
use Rattle.script.proofs.ScriptWords.{value_read, value_again, value_is, value_some, empty_is}
use Rattle.script.proofs.words.value.Goals as goal

pub returns-in_default : goal.returns-in_default
returns-in_default c = λ v all is.
    let none = rw c.in_default.is at c.in_ok-bytes.ensures in
    none v (value_read v c.args.text.now all is
    (λ dash. true≢false (sym (c.same.ensures.1 dash) ∙ c.if-same.false))).0

pub returns-then-is_empty : goal.returns-then-is_empty
returns-then-is_empty c = λ v all. value_some v c.args.text.now
    (empty_is c.args.text.now (sym c.is_empty.ensures ∙ c.if-is_empty.true))

pub returns-then-same-2 : goal.returns-then-same-2
returns-then-same-2 c =
    let found = rw c.in-Some.is at c.in_ok-bytes.ensures in
    let digits = c.in_ok-again.ensures ∙ ap encode_lower c.as_slice.ensures.value in
    let same = sym c.as_bytes.ensures.value ∙ c.same-2.ensures.0 c.if-same-2.true in
    rw c.new-then-same-2.ensures (value_is c.in-Some.bytes.items c.in_ok-again.again.bytes.items
    c.args.text.now found digits same
    (λ none. true≢false (sym (c.is_empty.ensures ∙ ap (λ (xs : List ℕ). length xs == 0) none) ∙
    c.if-is_empty.false)))

pub returns-else-same-2 : goal.returns-else-same-2
returns-else-same-2 c = λ v all is.
    let found = rw c.in-Some.is at c.in_ok-bytes.ensures in
    let digits = c.in_ok-again.ensures ∙ ap encode_lower c.as_slice.ensures.value in
    let again = value_again v c.args.text.now c.in-Some.bytes.items c.in_ok-again.again.bytes.items
    all is (λ dash. true≢false (sym (c.same.ensures.1 dash) ∙ c.if-same.false)) found digits in
    true≢false (sym (c.same-2.ensures.1 (c.as_bytes.ensures.value ∙ again)) ∙ c.if-same-2.false)
