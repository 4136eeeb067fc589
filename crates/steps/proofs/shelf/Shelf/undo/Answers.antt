use Rattle.std.proofs.Common.{◌≡◌, Option, MatchOption, sym, ◌∙◌, subst}
use Rattle.calls.specs.declared.call.Call.{Call}
use Rattle.calls.specs.declared.reply.Reply.{Reply}
use Rattle.boosted.specs.Meaning.{Does, Undoes}
use Rattle.steps.specs.Shelves.{ShelfState}
use Rattle.steps.proofs.shelf.Shelf.undo.Goals as goal

pub look-requires-clause-place : goal.look-requires-clause-place
look-requires-clause-place g c =
    let now = c.self.inside.collections in
    let newest = c.args.newest.now in
    let before = c.requires.undoes.0 in
    let undoes = subst (λ (s : ShelfState _). Undoes g.C.Boosted.meaning s.now newest.at newest.call
    newest.reply before) (sym c.self.view_is) c.requires.undoes.1 in
    let back = subst (λ (o : Option Call). MatchOption o (before ≡ now)
    (λ d. (reply : Reply) × Does g.C.Boosted.meaning now newest.at d reply before))
    (sym c.in_ok-call.ensures.ok ∙ c.in-Some.is) undoes in
    (g.met.C.Boosted.laws.holds now).answered_belongs newest.at c.in-Some.call back.0 back.1.0

pub returns-in_err-call-clause-in_place : goal.returns-in_err-call-clause-in_place
returns-in_err-call-clause-in_place g c = λ in_place.
    absurd (c.in_err-call.ensures.value (λ k old is. (in_place (Call.Put k old) is).0))
