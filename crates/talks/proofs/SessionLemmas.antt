-- Lines are carried out one after another.
use Rattle.std.proofs.Common.{ℕ, List, [], ◌∷◌, ◌++◌, append_assoc, refl, sym, ap, ◌∙◌, subst}
use Rattle.std.proofs.Common.{Option}
use Rattle.std.proofs.lemmas.List.{append-nil}
use Rattle.script.specs.declared.line.Line.{Line}
use Rattle.desks.specs.Origins.{Origin}
use Rattle.talks.specs.declared.transcript.Answer.{Answer}
use Rattle.talks.specs.Sessions.{SessionState, Answers, CarriesOut, answers_of}

module _ (o : Origin) where
  -- a line more
  pub carries_on : (k : ℕ) (old mid new : SessionState) (lines : List Line) (line : Line)
      (response : List Answer) (more : Option Answer) → CarriesOut o k old lines response mid →
      Answers o k mid line more new →
      CarriesOut o k old (lines ++ line ∷ []) (response ++ answers_of more) new
  carries_on k old mid new [] line response more carried answered = (
    more,
    [],
    new,
    ap (λ l. l ++ answers_of more) carried.0 ∙ sym (append-nil (answers_of more)),
    subst (λ s. Answers o k s line more new) carried.1 answered,
    (refl, refl),
  )
  carries_on k old mid new (l ∷ lines) line response more carried answered =
      let first = carried.0 in
      let rest = carried.1 in
      let next = carried.2 in (
        first,
        rest ++ answers_of more,
        next,
        ap (λ s. s ++ answers_of more) carried.3 ∙
            append_assoc (answers_of first) rest (answers_of more),
        carried.4,
        carries_on k next mid new lines line rest more carried.5 answered,
      )
