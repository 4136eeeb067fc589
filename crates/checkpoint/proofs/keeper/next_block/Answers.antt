use Rattle.std.proofs.Common.{rules, refl, sym, ◌∙◌, subst}
use Rattle.checkpoint.specs.Keepers.{IsBrought}
use Rattle.checkpoint.proofs.keeper.next_block.Goals as goal

pub returns-in-Some-clause-some : goal.returns-in-Some-clause-some
returns-in-Some-clause-some g c =
    let b = c.in-Some.block in
    let inbox = c.args.inbox.now in
    subst (λ held. IsBrought held (λ bs. g.I.Inbox.receives inbox bs inbox) b)
    (sym c.in-Some.is ∙ c.take.ensures.value) (refl, g.met.I.Inbox.receives_none inbox)

pub returns-in-Some-clause-held : goal.returns-in-Some-clause-held
returns-in-Some-clause-held g c = search rules
