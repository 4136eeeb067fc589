use Rattle.std.proofs.lemmas.Result.{err_from_is_err_and}
use Rattle.std.proofs.Common.{[], Err, Ok, refl, sym, ◌∙◌, ap, inl, inr, true≢false}
use Rattle.std.specs.Option.{is_some}
use Rattle.world.specs.declared.step.Step.{Step}
use Rattle.world.specs.declared.step.Answer.{Answer}
use Rattle.talks.proofs.Stepping.{asked}
use Rattle.talks.proofs.ClientLemmas.{none_is}
use Rattle.talks.proofs.client.Client.begin.Goals as goal

pub returns-then-is_some : goal.returns-then-is_some
returns-then-is_some g c = (
  [],
  (
    inl (
      λ none. absurd (true≢false (sym c.if-is_some.true ∙ c.is_some.ensures ∙ ap is_some none)),
      refl,
      refl,
    ),
    refl,
  ),
  refl,
)

pub returns-in_err-number : goal.returns-in_err-number
returns-in_err-number g c =
    let p = err_from_is_err_and c.from_residual.result c.from_residual.ensures.1 in
    let ran = asked g.D.Disk c.args.world.now c.draw.new.self Step.Draw Answer.Drawn
    (Err c.in_err-number.field-0.0) c.in_err-number.ensures in
    rw (p.1, p.2) (
      ran.0,
      (
        inr (
          none_is c.args.self.now.begun
              (sym c.is_some.ensures ∙ c.if-is_some.false),
          ran.1,
        ),
        refl,
      ),
      ran.2,
    )

pub returns : goal.returns
returns g c =
    let ran = asked g.D.Disk c.args.world.now c.draw.new.self Step.Draw Answer.Drawn
    (Ok c.in_ok-number.number) c.in_ok-number.ensures in (
      ran.0,
      (
        none_is c.args.self.now.begun (sym c.is_some.ensures ∙ c.if-is_some.false),
        ran.1,
        refl,
      ),
      ran.2,
    )
