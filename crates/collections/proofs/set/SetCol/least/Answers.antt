use Rattle.std.proofs.Common.{sym, ◌∙◌, ap, true≢false}
use Rattle.std.specs.FinSet as set
use Rattle.collections.proofs.Trees.{contains-set_of, none_at_all}
use Rattle.collections.proofs.set.SetCol.least.Goals as goal

pub returns-in-None : goal.returns-in-None
returns-in-None c = λ x l.
    ap (λ s. set.contains s x) (sym c.self.view_is)
    ∙ none_at_all c.self.inside.elements x
    (λ there. true≢false (sym (c.in-None.ensures.variant.1 there)))

pub returns-in-Some : goal.returns-in-Some
returns-in-Some c =
    ap (λ s. set.contains s c.in-Some.field-0.now) (sym c.self.view_is)
    ∙ contains-set_of c.self.inside.elements c.in-Some.field-0.now
    ∙ c.in-Some.ensures.member
