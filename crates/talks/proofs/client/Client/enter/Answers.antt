use Rattle.std.proofs.lemmas.Result.{err_from_is_err_and}
use Rattle.std.proofs.Common.{[], sym, subst, true, false, Ok, Err, refl}
use Rattle.calls.specs.declared.refusal.Refusal.{Refusal}
use Rattle.talks.specs.Clients.{opening, EntersOpen}
use Rattle.world.specs.declared.step.Step.{Step}
use Rattle.world.specs.declared.step.Answer.{Answer}
use Rattle.world.specs.Pasts.{alone}
use Rattle.talks.proofs.Stepping.{asked}
use Rattle.talks.proofs.ClientLemmas.{entered_as}
use Rattle.talks.proofs.client.Client.enter.Goals as goal

pub returns-in_default : goal.returns-in_default
returns-in_default g c = (
  [],
  subst
      (λ o. EntersOpen o c.args.self.now (Err Refusal.NoSuchTxn) [] c.args.self.now)
      (sym c.in_default.is) (refl, refl, refl),
  refl,
)

pub returns-then-begun : goal.returns-then-begun
returns-then-begun g c = (
  [],
  entered_as c.args.self.now c.in-Some.begun c.in-Some.is true (Ok c.in-Some.begun.number) []
      c.args.self.now c.if-begun.true (refl, refl, refl),
  refl,
)

pub returns-in_err-enter : goal.returns-in_err-enter
returns-in_err-enter g c =
    let p = err_from_is_err_and c.from_residual.result c.from_residual.ensures.1 in
    let ran = asked g.D.Disk c.args.world.now c.enter.new.self (Step.Enter c.in-Some.begun.number)
    (alone Answer.Entered) (Err c.in_err-enter.field-0.0) c.in_err-enter.ensures in
    rw (p.1, p.2) (
      ran.0,
      entered_as c.args.self.now c.in-Some.begun c.in-Some.is false
          (Err c.in_err-enter.field-0.0) ran.0 c.args.self.now c.if-begun.false (ran.1, refl),
      ran.2,
    )

pub returns : goal.returns
returns g c =
    let ran = asked g.D.Disk c.args.world.now c.enter.new.self (Step.Enter c.in-Some.begun.number)
    (alone Answer.Entered) (Ok tt) c.in_ok-enter.ensures in (
      ran.0,
      entered_as c.args.self.now c.in-Some.begun c.in-Some.is false
          (Ok c.in-Some.begun.number) ran.0 (opening c.args.self.now c.in-Some.begun.number true)
          c.if-begun.false (refl, ran.1, refl),
      ran.2,
    )
