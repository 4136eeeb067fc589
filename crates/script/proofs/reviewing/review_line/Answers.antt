use Rattle.std.proofs.Common.{◌∙◌, ◌++◌, ◌∷◌, [], ap, inl, refl, ℕ}
use Rattle.std.proofs.lemmas.List.{map-append}
use Rattle.script.specs.declared.reviewing.Finding.{Finding}
use Rattle.script.specs.Reviews.{numbers_of}
use Rattle.script.proofs.ReviewLemmas.{says_one, reviews_action, not_none, unclear_line}
use Rattle.script.proofs.reviewing.review_line.Goals as goal

pub returns-in-Ok-2-clause-reviews : goal.returns-in-Ok-2-clause-reviews
returns-in-Ok-2-clause-reviews c =
    reviews_action c.args.number c.args.line.now c.in-Ok.said.items _ _
    (says_one c.args.line.now c.in-Ok.said.items c.requires.whole c.in-Ok.ensures.read)
    (λ none. not_none c.in-Ok.said.len c.if-is_empty.ensures (c.in-Ok.said.ok.0 ∙ none))

pub returns-in_ok-push-in-Err-NotUnderstood-clause-reviews :
    goal.returns-in_ok-push-in-Err-NotUnderstood-clause-reviews
returns-in_ok-push-in-Err-NotUnderstood-clause-reviews c =
    let before = c.args.found.now.unclear.items in
    let refused = rw c.in-Err-NotUnderstood.field-0-is at
    (rw c.in-Err-NotUnderstood.is at c.parse.ensures.refused) in
    inl (
      unclear_line c.args.line.now c.in-Err-NotUnderstood.field-0-0 c.requires.whole refused,
      refl,
      ap numbers_of c.in_ok-push-in-Err-NotUnderstood.ensures.items ∙
          map-append (λ (found : Finding). found.number) before (c.finding_in.result ∷ []) ∙
          ap (λ (n : ℕ). numbers_of before ++ n ∷ []) c.finding_in.ensures,
    )
