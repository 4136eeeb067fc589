use Rattle.std.proofs.Common.{[], ◌∷◌, Some, leb, refl, sym, subst, rules, tests}
use Rattle.talks.specs.Clients.{Looks}
use Rattle.world.specs.declared.step.Step.{Step}
use Rattle.world.specs.declared.step.Answer.{Answer}
use Rattle.world.specs.Pasts.{Past}
use Rattle.talks.proofs.client.Client.is_kept.Goals as goal

pub returns : goal.returns
returns g c =
    let looked : Past = (Step.Look, Answer.Marked c.look-mark.result) ∷ [] in (
      looked,
      subst (λ o. Looks o (Some (leb c.in_ok-ticket.ticket c.look-mark.result)) looked)
          (sym c.in_ok-ticket.was) (c.look-mark.result, refl, search (rules, tests)),
      (c.args.world.now, c.look-mark.ensures, refl),
    )
